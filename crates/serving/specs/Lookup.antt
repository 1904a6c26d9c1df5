-- What the answers of look-up mean: which part of the lent heap it is, and the refusal number.
use Rattle.std.specs.Prelude.{ℕ, ◌+◌, ◌≤◌, ◌<◌, ◌≡◌, List, [], length, Result, Ok, Err}
use Rattle.std.specs.Borrow.{Bor, MutBor}
use Rattle.model.specs.Shape.{shape}
use Rattle.model.specs.Rules.{find, shown_of}
use Rattle.model.specs.Reading.{looked_up}
use Rattle.model.specs.Refusals.{not_live}
use Rattle.model.specs.Calls.{Checked, found}
use Rattle.model.specs.Refused.{refusal_number}
use Rattle.model.specs.declared.refusals.Refusal.{Refusal}

-- the bytes of the part, and the refusal number: each is what document 01 says of the heap's layout
abbrev pub PartTold : ℕ → List ℕ → ℕ → List ℕ → Type 0
PartTold w b a r = Checked (shape w) b (λ k. []) (λ L. looked_up (shape w) b a L) r

abbrev pub RefusalTold : ℕ → List ℕ → ℕ → ℕ → Type 0
RefusalTold w b a r = Checked (shape w) b (λ k. k) (λ L. found (shape w) (find (shape w) a L) not_live 0) r

-- what is shown of the payload at a: its bytes; and they are a part of a heap b that stands at h: they stand at r, a bytes after h, or at h where there are none
pub record PartAt (w : ℕ) (h : ℕ × ℕ) (b : List ℕ) (a : ℕ) (r : ℕ × ℕ) (part : List ℕ) : Type 0 where
  pub bytes : PartTold w b a part
  pub same : r.0 ≡ h.0
  pub place : 0 < length part → r.1 ≡ a + h.1
  pub empty : length part ≡ 0 → r.1 ≡ h.1

-- r is such a part of h, lent for reading; and lent for writing
abbrev pub Part : ℕ → Bor (List ℕ) → ℕ → Bor (List ℕ) → Type 0
Part w h a r = PartAt w h.ref_ptr h.now a r.ref_ptr r.now

abbrev pub PartMut : ℕ → MutBor (List ℕ) → ℕ → MutBor (List ℕ) → Type 0
PartMut w h a r = PartAt w h.ref_ptr h.now a r.ref_ptr r.now

-- the same of a payload that is live: there is no refusal, and some byte
pub record LivePart (w : ℕ) (h : ℕ × ℕ) (b : List ℕ) (a : ℕ) (r : ℕ × ℕ) (part : List ℕ) : Type 0 where
  pub bytes : PartTold w b a part
  pub granted : RefusalTold w b a 0
  pub some_byte : 0 < length part
  pub same : r.0 ≡ h.0
  pub place : r.1 ≡ a + h.1

-- why nothing is shown: the refusal, and there are no bytes
pub record NoPart (w : ℕ) (b : List ℕ) (a : ℕ) (k : Refusal) : Type 0 where
  pub bytes : PartTold w b a []
  pub refusal : RefusalTold w b a (refusal_number k)

-- r is such a part of h, lent for reading, or why there is none; and lent for writing
abbrev pub TriedPart : ℕ → Bor (List ℕ) → ℕ → Result (Bor (List ℕ)) Refusal → Type 0
TriedPart w h a (Ok r) = LivePart w h.ref_ptr h.now a r.ref_ptr r.now
TriedPart w h a (Err k) = NoPart w h.now a k

abbrev pub TriedPartMut : ℕ → MutBor (List ℕ) → ℕ → Result (MutBor (List ℕ)) Refusal → Type 0
TriedPartMut w h a (Ok r) = LivePart w h.ref_ptr h.now a r.ref_ptr r.now
TriedPartMut w h a (Err k) = NoPart w h.now a k

-- how many bytes are shown at a, at least one, or why there are none
abbrev pub HeldTold : ℕ → List ℕ → ℕ → Result ℕ Refusal → Type 0
HeldTold w b a (Ok n) = Checked (shape w) b (λ k. 0) (λ L. shown_of (shape w) (find (shape w) a L)) n × RefusalTold w b a 0 × (0 < n) × (a + n ≤ length b)
HeldTold w b a (Err k) = Checked (shape w) b (λ k. 0) (λ L. shown_of (shape w) (find (shape w) a L)) 0 × RefusalTold w b a (refusal_number k)

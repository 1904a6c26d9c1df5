-- What the ways of resize ask and promise.
use Rattle.std.specs.Prelude.{ℕ, ◌≤◌, ◌≡◌, List, Result, Ok, Err}
use Rattle.model.specs.declared.Address.{Address}
use Rattle.model.specs.Shape.{shape, offset_of, index}
use Rattle.model.specs.Layout.{Layout}
use Rattle.model.specs.Sound.{Here}
use Rattle.model.specs.Rules.{thing, find}
use Rattle.model.specs.declared.refusals.Refusal.{Refusal}
use Rattle.model.specs.Refused.{refusal_number}
use Rattle.model.specs.Calls.{Way, Outcome, refused, granted}
use Rattle.model.specs.inner.Ways.{heap_resized}
use Rattle.engine.specs.Ready.{Ready}

-- the item of class c with its header at q, for which k bytes were asked, is live at a
pub record ItemLiveAt (w : ℕ) (b : List ℕ) (a q c k : ℕ) : Type 0 where
  pub ready : Ready w b
  pub low : index (shape w) ≤ q
  pub is : (L : Layout) → Here (shape w) b L → find (shape w) a L ≡ thing (offset_of (shape w) q) c k

-- what an answer says: the refusal or the address, with the bytes
abbrev pub outcome_of : Result Address Refusal → List ℕ → Outcome
outcome_of (Ok a) c = granted a.0 c
outcome_of (Err k) c = refused c (refusal_number k)

-- the record at a resized by one way of resize, on the heap's own bytes
pub record ByWay (w : ℕ) (v : Way) (b : List ℕ) (a n : ℕ) (r : Result Address Refusal) (c : List ℕ) : Type 0 where
  pub is : (L : Layout) → Here (shape w) b L → outcome_of r c ≡ heap_resized (shape w) v b a n L

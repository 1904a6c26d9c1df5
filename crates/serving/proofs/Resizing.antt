-- Resize, way by way: what the inner call's answer shows of the contract.
use Rattle.std.proofs.Common.{ℕ, ◌≡◌, refl, sym, ap, subst, ◌∙◌, Bool, true, false, cond, leb, List, ◌++◌, length, drop, Ok, Err}
use Rattle.model.specs.Shape.{shape}
use Rattle.model.specs.Layout.{Layout}
use Rattle.model.specs.Sound.{Here, heap_of, HereIn}
use Rattle.model.specs.Rules.{Found, block, thing, nothing, find, capacity}
use Rattle.model.specs.Refusals.{not_live, no_room}
use Rattle.model.specs.Calls.{staying, moving, keeping, Outcome, refused, granted, in_buffer, resized_by}
use Rattle.model.specs.inner.Ways.{heap_resized}
use Rattle.model.proofs.pictures.Fronts.{refused_own}
use Rattle.model.proofs.lives.LiveFound.{is_there}
use Rattle.model.proofs.rules.ResizeWays.{heap_nowhere, heap_there, by_nowhere, by_there}
use Rattle.model.specs.Refused.{refusal_number}
use Rattle.resizing.specs.Ways.{outcome_of, ByWay}
use Rattle.growing.specs.Growing.{Relocates}
use Rattle.serving.specs.Answers.{Answer, outcome}

as_told : (r : Answer) (c : List ℕ) → outcome r c ≡ outcome_of r c
as_told (Ok a) c = refl
as_told (Err k) c = refl

pub relocates : (w : ℕ) (b : List ℕ) (a n : ℕ) (r : Answer) (c : List ℕ) → Relocates w b a n r c → (L : Layout) → HereIn (shape w) b L → outcome r c ≡ resized_by (shape w) moving b a n L
relocates w b a n r c g L h = as_told r c ∙ g.is L h

-- what was answered of the heap's own bytes, in the buffer
told_front : (r : Answer) (c b : List ℕ) (k : ℕ) → length c ≡ k → outcome r (c ++ drop k b) ≡ in_buffer b (outcome_of r c)
told_front (Ok a) c b k e = ap (λ (y : ℕ). granted a.0 (c ++ drop y b)) (sym e)
told_front (Err j) c b k e = ap (λ (y : ℕ). refused (c ++ drop y b) (refusal_number j)) (sym e)

module _ (w : ℕ) (b : List ℕ) (a n : ℕ) (L : Layout) where
  -- in place, and as it is: the heap does not grow
  in_buffer_lem : (f : Found) → find (shape w) a L ≡ f → in_buffer b (heap_resized (shape w) staying (heap_of (shape w) b) a n L) ≡ resized_by (shape w) staying b a n L
  in_buffer_lem nothing e = ap (λ (o : Outcome). in_buffer b o) (heap_nowhere (shape w) (heap_of (shape w) b) a n L staying e) ∙ refused_own (shape w) b not_live ∙ sym (by_nowhere (shape w) b a n L staying e)
  in_buffer_lem (block t) e = let i : is_there (find (shape w) a L) ≡ 1 = ap is_there e in ap (λ (o : Outcome). in_buffer b o) (heap_there (shape w) (heap_of (shape w) b) a n L staying i) ∙ sym (by_there (shape w) b a n L staying i)
  in_buffer_lem (thing o c k) e = let i : is_there (find (shape w) a L) ≡ 1 = ap is_there e in ap (λ (o : Outcome). in_buffer b o) (heap_there (shape w) (heap_of (shape w) b) a n L staying i) ∙ sym (by_there (shape w) b a n L staying i)

  pub stays_put : (h : List ℕ) → h ≡ heap_of (shape w) b → HereIn (shape w) b L → (r : Answer) (c : List ℕ) (k : ℕ) → ByWay w staying h a n r c → length c ≡ k
      → outcome r (c ++ drop k b) ≡ resized_by (shape w) staying b a n L
  stays_put h e x r c k g l =
      told_front r c b k l
      ∙ ap (λ (o : Outcome). in_buffer b o) ((subst (λ (d : List ℕ). ByWay w staying d a n r c) e g).is L x.here) ∙ in_buffer_lem (find (shape w) a L) refl

  -- what is kept says the same of the buffer as of the heap's own bytes
  with_bytes : (r : Answer) (h : List ℕ) → outcome r b ≡ record { refusal = (outcome_of r h).refusal; address = (outcome_of r h).address; heap = b }
  with_bytes (Ok v) h = refl
  with_bytes (Err k) h = refl

  of_live : (h : List ℕ) → is_there (find (shape w) a L) ≡ 1 → record { refusal = (heap_resized (shape w) keeping h a n L).refusal; address = (heap_resized (shape w) keeping h a n L).address; heap = b } ≡ resized_by (shape w) keeping b a n L
  of_live h i =
      ap (λ (o : Outcome). record { refusal = o.refusal; address = o.address; heap = b }) (heap_there (shape w) h a n L keeping i) ∙ go (leb n (capacity (shape w) (find (shape w) a L))) ∙ sym (by_there (shape w) b a n L keeping i)
    where
      go : (y : Bool) → record { refusal = (cond y (granted a h) (refused h no_room)).refusal; address = (cond y (granted a h) (refused h no_room)).address; heap = b } ≡ cond y (granted a b) (refused b no_room)
      go true = refl
      go false = refl

  as_kept : (h : List ℕ) (f : Found) → find (shape w) a L ≡ f → record { refusal = (heap_resized (shape w) keeping h a n L).refusal; address = (heap_resized (shape w) keeping h a n L).address; heap = b } ≡ resized_by (shape w) keeping b a n L
  as_kept h nothing e = ap (λ (o : Outcome). record { refusal = o.refusal; address = o.address; heap = b }) (heap_nowhere (shape w) h a n L keeping e) ∙ sym (by_nowhere (shape w) b a n L keeping e)
  as_kept h (block t) e = of_live h (ap is_there e)
  as_kept h (thing o c k) e = of_live h (ap is_there e)

  pub keeps : (h : List ℕ) → h ≡ heap_of (shape w) b → HereIn (shape w) b L → (r : Answer) → ByWay w keeping h a n r h → outcome r b ≡ resized_by (shape w) keeping b a n L
  keeps h e x r g =
      with_bytes r h
      ∙ ap (λ (o : Outcome). record { refusal = o.refusal; address = o.address; heap = b }) (g.is L (subst (λ (d : List ℕ). Here (shape w) d L) (sym e) x.here)) ∙ as_kept h (find (shape w) a L) refl

-- Free: what each way through the call shows of its contract.
use Rattle.std.specs.Prelude.{⊤}
use Rattle.std.proofs.Common.{ℕ, ◌≡◌, sym, ap, subst, ◌∙◌, true≢false, List, ◌++◌, length, drop, Option, Some, None, is_some}
use Rattle.model.specs.Shape.{shape}
use Rattle.model.specs.Layout.{Layout}
use Rattle.model.specs.Sound.{heap_of, HereIn}
use Rattle.model.specs.Rules.{Found, block, thing, nothing, find, freed}
use Rattle.model.specs.Refusals.{not_live}
use Rattle.model.specs.Calls.{Outcome, refused, granted, in_buffer, found, drawn}
use Rattle.model.proofs.pictures.Fronts.{refused_own}
use Rattle.engine.specs.Free.{is_found, freed_bytes, GivesBack}

-- of the heap's own bytes h, which end at k, c are then left
module _ (w : ℕ) (b h : List ℕ) (e : h ≡ heap_of (shape w) b) (a : ℕ) (r : Option ⊤) (c : List ℕ) (k : ℕ) (l : length c ≡ k) (f : GivesBack w h a r c) (L : Layout) (x : HereIn (shape w) b L) where
  own : GivesBack w (heap_of (shape w) b) a r c
  own = subst (λ (d : List ℕ). GivesBack w d a r c) e f

  abbrev rule : Found → Outcome
  rule y = found (shape w) y (refused b not_live) (in_buffer b (granted 0 (drawn (shape w) (freed (shape w) y L) (heap_of (shape w) b))))

  pub gave_back : r ≡ Some tt → granted 0 (c ++ drop k b) ≡ rule (find (shape w) a L)
  gave_back t = go (find (shape w) a L) (sym (own.answer L x.here) ∙ t) (own.bytes L x.here)
    where
      here : (M : Layout) → c ≡ drawn (shape w) M (heap_of (shape w) b) → granted 0 (c ++ drop k b) ≡ in_buffer b (granted 0 (drawn (shape w) M (heap_of (shape w) b)))
      here M u = ap (λ (y : ℕ). granted 0 (c ++ drop y b)) (sym l) ∙ ap (λ (d : List ℕ). in_buffer b (granted 0 d)) u

      go : (y : Found) → is_found y ≡ Some tt → c ≡ freed_bytes w (heap_of (shape w) b) L y → granted 0 (c ++ drop k b) ≡ rule y
      go nothing t u = absurd (true≢false (sym (ap is_some t)))
      go (block s) t u = here (freed (shape w) (block s) L) u
      go (thing o d m) t u = here (freed (shape w) (thing o d m) L) u

  pub nothing_there : r ≡ None → refused (c ++ drop k b) not_live ≡ rule (find (shape w) a L)
  nothing_there t = go (find (shape w) a L) (sym (own.answer L x.here) ∙ t) (own.bytes L x.here)
    where
      go : (y : Found) → is_found y ≡ None → c ≡ freed_bytes w (heap_of (shape w) b) L y → refused (c ++ drop k b) not_live ≡ rule y
      go nothing t u = ap (λ (z : ℕ). refused (c ++ drop z b) not_live) (sym l) ∙ ap (λ (d : List ℕ). in_buffer b (refused d not_live)) u ∙ refused_own (shape w) b not_live
      go (block s) t u = absurd (true≢false (ap is_some t))
      go (thing o d m) t u = absurd (true≢false (ap is_some t))

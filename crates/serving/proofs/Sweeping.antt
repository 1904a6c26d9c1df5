-- The sweep: what it leaves is the rule's outcome.
use Rattle.std.proofs.Common.{ℕ, ◌≡◌, sym, ap, ap₂, subst, ◌∙◌, List, ◌++◌, length, drop}
use Rattle.model.specs.Shape.{shape}
use Rattle.model.specs.Layout.{Layout}
use Rattle.model.specs.Sound.{heap_of, HereIn}
use Rattle.model.specs.Calls.{granted, in_buffer, ordinary, swept_all}
use Rattle.sweeping.specs.Sweep.{SweepDone}

pub swept_rule : (w : ℕ) (b h : List ℕ) → h ≡ heap_of (shape w) b → (n : ℕ) (c : List ℕ) (k : ℕ) → length c ≡ k → SweepDone w h n c → (L : Layout) → HereIn (shape w) b L → granted n (c ++ drop k b) ≡ ordinary (shape w) b (swept_all (shape w)) L
swept_rule w b h e n c k l s L x =
    let t = subst (λ (d : List ℕ). SweepDone w d n c) e s in
    ap (λ (y : ℕ). granted n (c ++ drop y b)) (sym l) ∙ ap₂ (λ (y : ℕ) (d : List ℕ). in_buffer b (granted y d)) (t.count L x.here) (t.bytes L x.here)

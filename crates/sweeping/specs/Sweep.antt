-- What a sweep past the check promises: the rule's count and bytes.
use Rattle.std.specs.Prelude.{ℕ, ◌≡◌, List}
use Rattle.model.specs.Shape.{shape}
use Rattle.model.specs.Layout.{Layout}
use Rattle.model.specs.Sound.{Here}
use Rattle.model.specs.Sweeping.{empties, swept}
use Rattle.model.specs.Calls.{drawn_in_turn}

pub record SweepDone (w : ℕ) (b : List ℕ) (n : ℕ) (c : List ℕ) : Type 0 where
  pub count : (L : Layout) → Here (shape w) b L → n ≡ empties L.blocks
  pub bytes : (L : Layout) → Here (shape w) b L → c ≡ drawn_in_turn (shape w) (swept (shape w) L) b

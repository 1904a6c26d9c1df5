-- What every call past the check asks for.
use Rattle.std.specs.Prelude.{ℕ, ◌≤◌, List, length}
use Rattle.words.specs.Width.{Width}
use Rattle.model.specs.Shape.{shape}
use Rattle.model.specs.Sound.{Sound}

-- a sound heap of no more than the longest
pub record Ready (w : ℕ) (b : List ℕ) : Type 0 where
  pub width : Width w
  pub sound : Sound (shape w) b
  pub short : length b ≤ (shape w).most

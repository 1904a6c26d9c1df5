-- What is promised of how much stands at an address.
use Rattle.std.specs.Prelude.{ℕ, ◌+◌, ◌≤◌, ◌≡◌, List, length, Option, Some, None}
use Rattle.model.specs.Shape.{shape}
use Rattle.model.specs.Layout.{Layout}
use Rattle.model.specs.Sound.{Here}
use Rattle.model.specs.Rules.{Found, block, thing, nothing, find}

-- a measure of what is found, None where that is nothing
abbrev pub measured : (Found → ℕ) → Found → Option ℕ
measured measure nothing = None
measured measure (block t) = Some (measure (block t))
measured measure (thing o c n) = Some (measure (thing o c n))

-- r is how much stands at a, by a measure of what is found: its capacity, or how much of that is shown; it is None only where nothing is live, and never 0
pub record Holds (w : ℕ) (measure : Found → ℕ) (b : List ℕ) (a : ℕ) (r : Option ℕ) : Type 0 where
  pub answer : (L : Layout) → Here (shape w) b L → r ≡ measured measure (find (shape w) a L)
  pub none : r ≡ None → (L : Layout) → Here (shape w) b L → find (shape w) a L ≡ nothing
  pub some : (n : ℕ) → r ≡ Some n → 1 ≤ n
  pub within : (n : ℕ) → r ≡ Some n → a + n ≤ length b

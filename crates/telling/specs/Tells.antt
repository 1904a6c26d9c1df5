-- An answer that tells whether something holds.
use Rattle.std.specs.Prelude.{◌≡◌, Bool, true}

-- true exactly where P holds
pub record Tells (r : Bool) (P : Type 0) : Type 0 where
  pub yes_is : r ≡ true → P
  pub is_yes : P → r ≡ true

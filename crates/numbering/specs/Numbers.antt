-- What a C call's one number and the bytes after it mean.
use Rattle.std.specs.Prelude.{ℕ, ◌≡◌, List}
use Rattle.model.specs.Calls.{Outcome, number}

-- the number and the bytes are those of an outcome that the call's contract allows
pub record Numbered (allows : Outcome → Type 0) (r : ℕ) (b : List ℕ) : Type 0 where
  pub outcome : Outcome
  pub allowed : allows outcome
  pub number : r ≡ number outcome
  pub heap : b ≡ outcome.heap

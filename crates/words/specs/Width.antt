-- The word sizes that there are: 4 and 8 bytes.
use Rattle.std.specs.Prelude.{ℕ, ◌+◌, ◌*◌, ◌%◌, ◌≤◌, ◌≡◌}

-- w is 4 or 8. (As sums: so a fact that is linear in w and in w * w is found by arithmetic alone.)
pub record Width (w : ℕ) : Type 0 where
  pub least : 4 ≤ w
  pub most : w ≤ 8
  pub fours : w % 4 ≡ 0
  pub square : w * w + 32 ≡ 12 * w

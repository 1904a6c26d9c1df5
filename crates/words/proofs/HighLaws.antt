-- A number of 64 bits whose low part r, below n, is moved up by `up` onto the high part q: one comparison then tells of both.
use Rattle.std.proofs.Common.{ℕ, ◌+◌, ◌-◌, ◌*◌, ◌^◌, ◌≤◌, ◌<◌, ◌≡◌, mul-le-mul_right, arith}

module _ (q r up : ℕ) where
  pub high_fits : (n : ℕ) → r < n → q + (n - 1) * up < 2 ^ 64 → (r * up < 2 ^ 64) × (q + r * up < 2 ^ 64)
  high_fits n h f = let z : r * up ≤ (n - 1) * up = mul-le-mul_right up (omega arith) in omega (arith, z, f)

  pub high_none : r ≡ 0 → q + r * up ≡ q
  high_none e = rw e (omega arith)

  pub high_far : 1 ≤ r → up ≤ q + r * up
  high_far h = let z : 1 * up ≤ r * up = mul-le-mul_right up h in omega (arith, z)

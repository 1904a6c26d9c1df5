-- Yes is not no.
use Rattle.std.proofs.Common.{ℕ, ◌≡◌, true, false, arith}

pub yes_no : true ≡ false → ⊥
yes_no e = let z : ◌≡◌ {A = ℕ} 0 1 = cc in omega arith

-- What holds at 4 and at 8 holds at every word size.
use Rattle.std.proofs.Common.{ℕ, ◌≡◌, sym, subst, arith}
use Rattle.std.proofs.Math.Decide.{ℕ_discrete}
use Rattle.words.specs.Width.{Width}

pub four : (w : ℕ) → Width w → (w ≡ 8 → ⊥) → w ≡ 4
four w k n = omega arith

pub widths : (P : ℕ → Type 0) → P 4 → P 8 → (w : ℕ) → Width w → P w
widths P a b w k = go (ℕ_discrete w 8)
  where
    go : Dec (w ≡ 8) → P w
    go (yes e) = subst P (sym e) b
    go (no n) = subst P (sym (four w k n)) a

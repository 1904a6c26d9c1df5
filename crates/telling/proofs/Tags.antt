-- The size of a tag, in eights of bytes: what follows of the difference that it is worked out from.
use Rattle.std.proofs.Common.{◌≡◌, ℕ, ◌+◌, ◌*◌, ◌/◌, ◌%◌, ◌^◌, ◌<◌, ◌≤◌, ap, ◌∙◌, arith}
use Rattle.words.proofs.HighLaws.{high_fits, high_none, high_far}
use Rattle.model.specs.Parts.{kind_in, size_in}

-- y is the difference of a tag t and a kind: what follows of its parts, and of the size that is made of them
pub eights_fit : (y : ℕ) → y < 2 ^ 64 → (y % 8 * 2 ^ 61 < 2 ^ 64) × (y / 8 + y % 8 * 2 ^ 61 < 2 ^ 64)
eights_fit y h = high_fits (y / 8) (y % 8) (2 ^ 61) 8 (omega arith) (omega arith)

module _ (t y kind : ℕ) (few : kind < 8) (fits : y < 2 ^ 64) (e : (y + kind) % 2 ^ 64 ≡ t) where
  same_kind : kind_in t ≡ kind → (y % 8 ≡ 0) × (8 * (y / 8) ≡ size_in t)
  same_kind f = omega (arith, few, fits, e, f)

  other_kind : (kind_in t ≡ kind → ⊥) → 1 ≤ y % 8
  other_kind f = omega (arith, few, fits, e, f)

  pub eights_near : kind_in t ≡ kind → 8 * (y / 8 + y % 8 * 2 ^ 61) ≡ size_in t
  eights_near f =
      let z = same_kind f in
      ap (λ (x : ℕ). 8 * x) (high_none (y / 8) (y % 8) (2 ^ 61) z.0) ∙ z.1

  pub eights_far : (kind_in t ≡ kind → ⊥) → 2 ^ 61 ≤ y / 8 + y % 8 * 2 ^ 61
  eights_far f = high_far (y / 8) (y % 8) (2 ^ 61) (other_kind f)

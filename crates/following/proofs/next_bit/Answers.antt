use Rattle.words.specs.Width.{Width}
use Rattle.words.proofs.WidthLaws.{widths}
use Rattle.model.specs.Shape.{shape}
use Rattle.model.specs.Parts.{free_mark, class_and_flags, next_in}
use Rattle.marking.specs.Maps.{offset_bit}
use Rattle.marking.proofs.Places.{next_fits, next_near, next_far}
use Rattle.std.proofs.Common.{◌≡◌, ℕ, ◌+◌, ◌*◌, ◌/◌, ◌%◌, ◌^◌, ◌<◌, sym, ap, ◌∙◌, arith}
use Rattle.following.proofs.next_bit.Goals as goal

-- the bit i of the item at offset n, which a header y names, is all of the header but class and flags k, which become its highest bits
module _ {w : ℕ} (wd : Width w) (y n i k : ℕ) (en : n ≡ next_in (shape w) y) (ei : i ≡ offset_bit w n) (ek : k ≡ class_and_flags (shape w) y) where
  named-bit : i ≡ y / (16 * w)
  named-bit = ei ∙ ap (λ (x : ℕ). offset_bit w x) en ∙ widths (λ w. offset_bit w (next_in (shape w) y) ≡ y / (16 * w)) (omega arith) (omega arith) _ wd

  high-bits : y < 2 ^ 64 → (k * (2 ^ 60 / w) < 2 ^ 64) × (i + k * (2 ^ 60 / w) < 2 ^ 64)
  high-bits fits = rw (named-bit, ek) (next_fits wd y fits)

pub overflow_mul-result : goal.overflow_mul-result
overflow_mul-result g c =
    let high : (c.class_and_flags.result * (2 ^ 60 / g.W.Width.BYTES) < 2 ^ 64) × (c.offset_bit.result + c.class_and_flags.result * (2 ^ 60 / g.W.Width.BYTES) < 2 ^ 64) = high-bits g.met.W.Width.width _ _ _ _ c.next_in.ensures c.offset_bit.ensures c.class_and_flags.ensures (omega (arith, c.wrapping_sub_usize-y.type_inv)) in
    rw c.BYTES.ensures (omega (arith, high.0))

pub overflow_add-result : goal.overflow_add-result
overflow_add-result g c =
    let high : (c.class_and_flags.result * (2 ^ 60 / g.W.Width.BYTES) < 2 ^ 64) × (c.offset_bit.result + c.class_and_flags.result * (2 ^ 60 / g.W.Width.BYTES) < 2 ^ 64) = high-bits g.met.W.Width.width _ _ _ _ c.next_in.ensures c.offset_bit.ensures c.class_and_flags.ensures (omega (arith, c.wrapping_sub_usize-y.type_inv)) in
    rw c.BYTES.ensures (omega (arith, high.1))

pub returns : goal.returns
returns g c =
    let fits : c.wrapping_sub_usize-y.result < 2 ^ 64 = omega (arith, c.wrapping_sub_usize-y.type_inv) in
    let differs : (c.wrapping_sub_usize-y.result + free_mark c.args.c) % 2 ^ 64 ≡ c.args.x = ap (λ (k : ℕ). (c.wrapping_sub_usize-y.result + k) % 2 ^ 64) (sym c.free_mark.ensures) ∙ c.wrapping_sub_usize-y.ensures.value in
    rw (c.BYTES.ensures, named-bit g.met.W.Width.width _ _ _ _ c.next_in.ensures c.offset_bit.ensures c.class_and_flags.ensures, c.class_and_flags.ensures) (record { near = next_near g.met.W.Width.width _ _ _ c.requires fits differs; far = next_far g.met.W.Width.width _ _ _ c.requires fits differs })

use Rattle.telling.proofs.Tags.{eights_fit, eights_near, eights_far}
use Rattle.std.proofs.Common.{◌≡◌, ℕ, ◌+◌, ◌*◌, ◌/◌, ◌%◌, ◌^◌, ◌<◌, ap₂, arith}
use Rattle.telling.proofs.eights.Goals as goal

pub overflow_add-result : goal.overflow_add-result
overflow_add-result c =
    let fits : c.wrapping_sub_usize-y.result < 2 ^ 64 = omega (arith, c.wrapping_sub_usize-y.type_inv) in
    omega (arith, eights_fit _ fits, c.size_in.ensures, c.kind_in.ensures)

pub returns : goal.returns
returns c =
    let fits : c.wrapping_sub_usize-y.result < 2 ^ 64 = omega (arith, c.wrapping_sub_usize-y.type_inv) in
    let parts : c.size_in.result / 8 + c.kind_in.result * 2 ^ 61 ≡ c.wrapping_sub_usize-y.result / 8 + c.wrapping_sub_usize-y.result % 8 * 2 ^ 61 = ap₂ (λ (x y : ℕ). x + y * 2 ^ 61) (omega (arith, c.size_in.ensures)) c.kind_in.ensures in
    rw parts (record { near = eights_near _ _ _ c.requires fits c.wrapping_sub_usize-y.ensures.value; far = eights_far _ _ _ c.requires fits c.wrapping_sub_usize-y.ensures.value })

use Rattle.std.proofs.Common.{◌≡◌, ℕ, ◌+◌, ◌/◌, ◌^◌, ◌<◌, ap, ◌∙◌, div-le_self, arith}
use Rattle.words.specs.Word.{word_at}
use Rattle.model.specs.Shape.{shape, item_size}
use Rattle.marking.specs.Maps.{at_bit}
use Rattle.marking.proofs.PageLaws.{ItemsInv, items_start, items_first, items_fit, items_next, items_turn_held, items_turn_idle, items_told}
use Rattle.marking.proofs.Places.{bit_room}
use Rattle.marking.proofs.pages.mark_items.Goals as goal
use Rattle.marking.proofs.pages.mark_items.Goals.{then-flags_in-le-IDLE, else-flags_in-le-IDLE}

pub loop-m-smaller : goal.loop-m-smaller
loop-m-smaller g c =
    let size_is : c.item_size.result / g.W.Width.BYTES ≡ item_size (shape g.W.Width.BYTES) c.args.c / g.W.Width.BYTES = ap (λ (x : ℕ). x / g.W.Width.BYTES) c.item_size.ensures in
    let next : (c.loop-m.i < c.loop-m.i + c.item_size.result / g.W.Width.BYTES) × (c.loop-m.i + c.item_size.result / g.W.Width.BYTES < 2 ^ 32) × (at_bit g.W.Width.BYTES c.loop-m.i < 2 ^ 32) = let n = items_next c.loop-m.invariant.0 c.loop-m.invariant.1 _ size_is c.requires.size in (n.0, n.2, n.3) in
    let stepped : c.wrapping_add_u32-i.result ≡ c.loop-m.i + c.item_size.result / g.W.Width.BYTES = (let e = rw c.BYTES.ensures at c.wrapping_add_u32-i.ensures in omega (arith, e, next)) in
    omega (arith, stepped, next, c.if-stop-i.false)

pub loop-m-preserved : goal.loop-m-preserved
loop-m-preserved g c =
    let size_is : c.item_size.result / g.W.Width.BYTES ≡ item_size (shape g.W.Width.BYTES) c.args.c / g.W.Width.BYTES = ap (λ (x : ℕ). x / g.W.Width.BYTES) c.item_size.ensures in
    let read : c.word-x.result ≡ word_at g.W.Width.BYTES c.args.h.now (at_bit g.W.Width.BYTES c.loop-m.i) = c.word-x.ensures ∙ ap (λ (x : ℕ). word_at g.W.Width.BYTES c.args.h.now x) c.at_bit.ensures in
    let next : (c.loop-m.i < c.loop-m.i + c.item_size.result / g.W.Width.BYTES) × (c.loop-m.i + c.item_size.result / g.W.Width.BYTES < 2 ^ 32) × (at_bit g.W.Width.BYTES c.loop-m.i < 2 ^ 32) = let n = items_next c.loop-m.invariant.0 c.loop-m.invariant.1 _ size_is c.requires.size in (n.0, n.2, n.3) in
    let few : c.args.c < 2 ^ 16 = omega (arith, c.requires.class, c.requires.width) in
    let stepped : c.wrapping_add_u32-i.result ≡ c.loop-m.i + c.item_size.result / g.W.Width.BYTES = (let e = rw c.BYTES.ensures at c.wrapping_add_u32-i.ensures in omega (arith, e, next)) in
    let turned : ItemsInv g.W.Width.BYTES c.args.h.now c.args.m.now c.args.first c.args.stop c.args.c c.if-flags_in-le-IDLE.m c.if-flags_in-le-IDLE.marks c.if-flags_in-le-IDLE.wrong c.if-flags_in-le-IDLE.above c.wrapping_add_u32-i.result = rw stepped (elim c.if-flags_in-le-IDLE.branch [ then-flags_in-le-IDLE u ↦ rw (u.m-is, u.marks-is, u.wrong-is, u.above-is) (items_turn_idle c.loop-m.invariant.0 c.loop-m.invariant.1 _ _ read size_is (omega (arith, u.if-flags_in-le-IDLE.true, c.flags_in.ensures)) c.requires.class _ (omega arith) (omega (arith, u.free_mark.ensures)) _ u.mark.ensures) | else-flags_in-le-IDLE u ↦ rw (u.m-is, u.marks-is, u.wrong-is, u.above-is) (items_turn_held c.loop-m.invariant.0 c.loop-m.invariant.1 _ _ read size_is (omega (arith, u.if-flags_in-le-IDLE.false, c.flags_in.ensures)) few _ (omega (arith, u.wrapping_sub_usize-above.type_inv)) (rw u.least_header.ensures at u.wrapping_sub_usize-above.ensures.value)) ]) in
    (turned, c.if-stop-i.false)

pub returns : goal.returns
returns g c =
    let size_is : c.item_size.result / g.W.Width.BYTES ≡ item_size (shape g.W.Width.BYTES) c.args.c / g.W.Width.BYTES = ap (λ (x : ℕ). x / g.W.Width.BYTES) c.item_size.ensures in
    let read : c.word-x.result ≡ word_at g.W.Width.BYTES c.args.h.now (at_bit g.W.Width.BYTES c.loop-m.i) = c.word-x.ensures ∙ ap (λ (x : ℕ). word_at g.W.Width.BYTES c.args.h.now x) c.at_bit.ensures in
    let next : (c.loop-m.i < c.loop-m.i + c.item_size.result / g.W.Width.BYTES) × (c.loop-m.i + c.item_size.result / g.W.Width.BYTES < 2 ^ 32) × (at_bit g.W.Width.BYTES c.loop-m.i < 2 ^ 32) = let n = items_next c.loop-m.invariant.0 c.loop-m.invariant.1 _ size_is c.requires.size in (n.0, n.2, n.3) in
    let few : c.args.c < 2 ^ 16 = omega (arith, c.requires.class, c.requires.width) in
    let stepped : c.wrapping_add_u32-i.result ≡ c.loop-m.i + c.item_size.result / g.W.Width.BYTES = (let e = rw c.BYTES.ensures at c.wrapping_add_u32-i.ensures in omega (arith, e, next)) in
    let turned : ItemsInv g.W.Width.BYTES c.args.h.now c.args.m.now c.args.first c.args.stop c.args.c c.if-flags_in-le-IDLE.m c.if-flags_in-le-IDLE.marks c.if-flags_in-le-IDLE.wrong c.if-flags_in-le-IDLE.above c.wrapping_add_u32-i.result = rw stepped (elim c.if-flags_in-le-IDLE.branch [ then-flags_in-le-IDLE u ↦ rw (u.m-is, u.marks-is, u.wrong-is, u.above-is) (items_turn_idle c.loop-m.invariant.0 c.loop-m.invariant.1 _ _ read size_is (omega (arith, u.if-flags_in-le-IDLE.true, c.flags_in.ensures)) c.requires.class _ (omega arith) (omega (arith, u.free_mark.ensures)) _ u.mark.ensures) | else-flags_in-le-IDLE u ↦ rw (u.m-is, u.marks-is, u.wrong-is, u.above-is) (items_turn_held c.loop-m.invariant.0 c.loop-m.invariant.1 _ _ read size_is (omega (arith, u.if-flags_in-le-IDLE.false, c.flags_in.ensures)) few _ (omega (arith, u.wrapping_sub_usize-above.type_inv)) (rw u.least_header.ensures at u.wrapping_sub_usize-above.ensures.value)) ]) in
    items_told turned c.if-stop-i.true

use Rattle.words.specs.Bits.{bit_at}
use Rattle.std.proofs.Common.{◌≡◌, arith}
use Rattle.following.proofs.ListLaws.{list_from, list_none, list_head, list_begins, list_done, list_more, list_clear, list_over, list_turn}
use Rattle.marking.proofs.MapLaws.{bit_set, no_mark, marked_inside}
use Rattle.marking.proofs.Places.{bits_less, map_end_bound}
use Rattle.following.proofs.count_list.Goals as goal

pub returns-then-head-eq0 : goal.returns-then-head-eq0
returns-then-head-eq0 g c = list_from _ _ _ c.word.ensures c.head_at.ensures.0 (list_none c.if-head-eq0.true)

pub returns-then-head-BYTES-ne0 : goal.returns-then-head-BYTES-ne0
returns-then-head-BYTES-ne0 g c = list_from _ _ _ c.word.ensures c.head_at.ensures.0 (list_head c.requires.0.sizes.width (rw c.BYTES.ensures at c.if-head-BYTES-ne0.true))

pub loop-i-init : goal.loop-i-init
loop-i-init g c = list_begins c.requires.0.sizes.width _ _ _ c.word.ensures c.head_at.ensures.0 (rw c.BYTES.ensures at c.if-head-BYTES-ne0.false) c.offset_bit-i.ensures

pub returns-then-top-i : goal.returns-then-top-i
returns-then-top-i g c = list_clear c.loop-i.invariant (λ e. omega (arith, e, c.if-top-i.true, c.requires.0.map.some)) (no_mark _ _ c.if-top-i.true)

pub test-requires : goal.test-requires
test-requires g c = record { low = omega (arith, c.if-top-i.false, c.requires.0.map.few); within = omega (arith, c.if-top-i.false) }

pub returns-then-i-ne0 : goal.returns-then-i-ne0
returns-then-i-ne0 g c = list_clear c.loop-i.invariant c.if-i-ne0.true (omega (arith, c.test.ensures))

pub returns-then-test-eq0 : goal.returns-then-test-eq0
returns-then-test-eq0 g c = list_done c.loop-i.invariant c.if-i-ne0.false

pub returns-then-n-eq0 : goal.returns-then-n-eq0
returns-then-n-eq0 g c = list_over c.loop-i.invariant (list_more c.loop-i.invariant c.requires.0.none (bit_set _ _ c.test.ensures (λ z. omega (arith, z)))) c.if-n-eq0.true

pub at_bit-requires : goal.at_bit-requires
at_bit-requires g c = omega (arith, bits_less c.requires.0.sizes.width _ _ c.if-top-i.false, map_end_bound c.requires.0.sizes.width _ c.requires.0.map.few)

pub word-requires-in-loop-i : goal.word-requires-in-loop-i
word-requires-in-loop-i g c = omega (arith, c.at_bit.ensures, marked_inside c.requires.0.sizes.width _ c.requires.0.sizes.eight c.requires.0.clear (bit_set _ _ c.test.ensures (λ z. omega (arith, z))), c.requires.0.sizes.inside)

pub loop-i-preserved : goal.loop-i-preserved
loop-i-preserved g c =
    let set : bit_at c.args.m.now c.loop-i.i ≡ 1 = bit_set _ _ c.test.ensures (λ z. omega (arith, z)) in
    list_turn c.loop-i.invariant (list_more c.loop-i.invariant c.requires.0.none set) _ _ c.at_bit.ensures c.word-in-loop-i.ensures _ c.next_bit-i.ensures (omega (arith, c.if-top-i.false, c.requires.0.map.few)) (marked_inside c.requires.0.sizes.width _ c.requires.0.sizes.eight c.requires.0.clear set) c.if-n-eq0.false set

use Rattle.std.proofs.Common.{arith}
use Rattle.relinking.proofs.Rising.{rising_start, rising_level, rising_more, rising_next, rising_length, rising_done}
use Rattle.model.proofs.Sizes.{per_page_bound}
use Rattle.relinking.proofs.push_levels.Goals as goal

pub items_in_page-most-requires : goal.items_in_page-most-requires
items_in_page-most-requires g c = c.requires.class

pub loop-k-init : goal.loop-k-init
loop-k-init g c = rising_next (rising_start c.requires (λ i. (c.type_inv.h i).fits)) _ _ c.items_in_page-most.ensures c.next_level-k.ensures

pub push_level-requires : goal.push_level-requires
push_level-requires g c = rising_level c.loop-k.invariant

pub overflow_add-k : goal.overflow_add-k
overflow_add-k g c = omega (arith, c.loop-k-test.true, c.items_in_page-most.ensures, per_page_bound c.requires.width c.args.c)

pub loop-k-smaller : goal.loop-k-smaller
loop-k-smaller g c = omega (arith, c.loop-k-test.true, c.next_level-k-in-loop-k.ensures.from)

pub loop-k-preserved : goal.loop-k-preserved
loop-k-preserved g c = rising_next (rising_more c.loop-k.invariant _ c.items_in_page-most.ensures c.loop-k-test.true c.push_level.ensures) _ _ c.items_in_page-most.ensures c.next_level-k-in-loop-k.ensures

pub shape_of-h : goal.shape_of-h
shape_of-h g c = rising_length c.loop-k.invariant

pub returns : goal.returns
returns g c = rising_done c.loop-k.invariant _ c.items_in_page-most.ensures c.loop-k-test.false

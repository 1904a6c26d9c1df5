use Rattle.std.proofs.Common.{arith}
use Rattle.reading.proofs.IterLaws.{turn_read}
use Rattle.showing.proofs.map.draw_all.Goals as goal

pub loop-block-init : goal.loop-block-init
loop-block-init g c = (rw (c.into_iter-block-iterator.ensures.into_iter_gives, c.heap.view_is) c.blocks-block-items.ensures.0, omega arith)

pub block_mark-requires : goal.block_mark-requires
block_mark-requires g c = turn_read c.loop-block.invariant.0 c.in-Some.ensures.steps

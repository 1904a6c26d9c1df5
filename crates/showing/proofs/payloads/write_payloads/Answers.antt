use Rattle.reading.proofs.IterLaws.{turn_read}
use Rattle.showing.proofs.payloads.write_payloads.Goals as goal

pub loop-block-init : goal.loop-block-init
loop-block-init g c = rw (c.into_iter-block-iterator.ensures.into_iter_gives, c.heap.view_is) c.blocks-block-items.ensures.0

pub write_held-requires : goal.write_held-requires
write_held-requires g c = turn_read c.loop-block.invariant c.in-Some.ensures.steps

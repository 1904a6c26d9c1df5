use Rattle.model.specs.Reading.{counted}
use Rattle.reading.proofs.CountLaws.{told_none}
use Rattle.reading.proofs.IterLaws.{begins, turn_end}
use Rattle.reading.proofs.ReadingLaws.{going_done}
use Rattle.reading.proofs.heap.SoundHeap.count.Goals as goal

pub loop-block-init : goal.loop-block-init
loop-block-init g c = rw (c.into_iter-block-iterator.ensures.into_iter_gives, c.self.view_is) (begins counted c.blocks-block-items.ensures.0 c.blocks-block-items.ensures.1 g.met.W.Width.width (rw (← c.self.view_is) c.self.invariant) _ (told_none _ c.default-s.ensures))

pub returns : goal.returns
returns g c = rw (← c.self.view_is) (going_done counted c.loop-block.invariant.1 (turn_end c.loop-block.invariant.0 c.in-None.ensures.steps))

use Rattle.std.proofs.Common.{refl, List}
use Rattle.model.specs.Layout.{Block}
use Rattle.reading.proofs.ReadingLaws.{going_start}
use Rattle.reading.proofs.heap.SoundHeap.blocks.Goals as goal

pub returns : goal.returns
returns g c = rw (← c.self.view_is) (refl, c.start.ensures, going_start (λ (l : List Block). tt) g.met.W.Width.width _ _ c.start.ensures c.self.invariant tt refl)

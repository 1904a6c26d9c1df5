use Rattle.std.proofs.Common.{◌≡◌}
use Rattle.model.specs.Reading.{counted}
use Rattle.reading.specs.Counting.{Going, told}
use Rattle.reading.proofs.heap.SoundHeap.count.Given as goal

abbrev pub invariant-loop-block : goal.invariant-loop-block
invariant-loop-block g l = (l.block-iterator.h.now ≡ l.self-inside.bytes.now) × Going g.W.Width.BYTES counted l.self-inside.bytes.now l.block-iterator.at.0 (told l.s)

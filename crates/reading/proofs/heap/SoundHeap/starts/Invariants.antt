use Rattle.std.proofs.Common.{length, ◌-◌, ◌<◌}
use Rattle.reading.specs.Stepping.{Towards}
use Rattle.model.specs.Shape.{end_of}
use Rattle.reading.proofs.heap.SoundHeap.starts.Given as goal

abbrev pub invariant-loop-p : goal.invariant-loop-p
invariant-loop-p g l = Towards g.W.Width.BYTES l.self-inside.bytes.now l.at.0 l.p.0 × (l.at.0 < end_of (length l.self-inside.bytes.now))

abbrev pub decreases-loop-p : goal.decreases-loop-p
decreases-loop-p g l = l.at.0 - l.p.0

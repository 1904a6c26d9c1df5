use Rattle.std.specs.Prelude.{◌-◌, length}
use Rattle.growing.specs.Growing.{Runs}
use Rattle.growing.proofs.Running.{Failed, Turn}
use Rattle.growing.proofs.run.Given as goal

abbrev pub invariant-loop-a : goal.invariant-loop-a
invariant-loop-a g l = Turn g.W.Width.BYTES l.initial.h l.n (Failed g.W.Width.BYTES l.initial.h (Runs g.F.Fn l.f)) l.end.0 l.h

abbrev pub decreases-loop-a : goal.decreases-loop-a
decreases-loop-a g l = length l.h - l.end.0

use Rattle.std.specs.Prelude.{length}
use Rattle.model.proofs.blocks.FreeWalk.{left}
use Rattle.fitting.proofs.FitLaws.{Looking}
use Rattle.fitting.proofs.find_fit.Given as goal

abbrev pub invariant-loop-p : goal.invariant-loop-p
invariant-loop-p g l = Looking g.W.Width.BYTES l.h l.need l.p.0

abbrev pub decreases-loop-p : goal.decreases-loop-p
decreases-loop-p g l = left (length l.h) l.p.0

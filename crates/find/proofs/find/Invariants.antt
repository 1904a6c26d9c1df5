use Rattle.std.proofs.Common.{◌-◌}
use Rattle.find.proofs.FindLaws.{Looking}
use Rattle.find.proofs.find.Given as goal

abbrev pub invariant-loop-next : goal.invariant-loop-next
invariant-loop-next g l = Looking g.W.Width.BYTES l.h l.a.0 l.prev.0 l.begin.0 l.p.0

abbrev pub decreases-loop-next : goal.decreases-loop-next
decreases-loop-next g l = l.a.0 - l.p.0

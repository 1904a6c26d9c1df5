use Rattle.std.proofs.Common.{◌-◌}
use Rattle.marking.proofs.Rights.{RightInv}
use Rattle.marking.proofs.pages.are_right.Given as goal

abbrev pub invariant-loop : goal.invariant-loop
invariant-loop g l = RightInv g.W.Width.BYTES l.h l.c l.size l.initial.q.0 l.end l.q.0 (l.end - l.counter)

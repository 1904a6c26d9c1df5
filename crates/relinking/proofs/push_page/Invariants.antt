use Rattle.relinking.proofs.PushLaws.{Carrying}
use Rattle.relinking.proofs.push_page.Given as goal

abbrev pub invariant-loop-q : goal.invariant-loop-q
invariant-loop-q g l = Carrying g.W.Width.BYTES l.initial.h l.c l.size l.at.0 l.first.0 l.h l.head.0 l.q.0

abbrev pub decreases-loop-q : goal.decreases-loop-q
decreases-loop-q g l = l.q.0

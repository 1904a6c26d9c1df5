use Rattle.std.proofs.Common.{◌-◌}
use Rattle.reading.proofs.ReadingLaws.{Held}
use Rattle.reading.proofs.counting.count_held.Given as goal

abbrev pub invariant-loop : goal.invariant-loop
invariant-loop g l = Held g.W.Width.BYTES l.h l.c l.initial.q.0 l.n l.size l.q.0 (l.n - l.counter) l.held

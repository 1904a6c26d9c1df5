use Rattle.relinking.proofs.Rising.{Least}
use Rattle.relinking.proofs.next_level.Given as goal

abbrev pub invariant-loop-e : goal.invariant-loop-e
invariant-loop-e l = Least l.table l.e-index l.k l.most l.next

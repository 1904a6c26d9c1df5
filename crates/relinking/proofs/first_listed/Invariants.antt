use Rattle.relinking.specs.Relink.{EmptyBelow}
use Rattle.relinking.proofs.first_listed.Given as goal

abbrev pub invariant-loop-c : goal.invariant-loop-c
invariant-loop-c g l = EmptyBelow g.W.Width.BYTES l.h l.c

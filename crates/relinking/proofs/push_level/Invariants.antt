use Rattle.relinking.proofs.LevelLaws.{Levelling}
use Rattle.relinking.proofs.push_level.Given as goal

abbrev pub invariant-loop-i : goal.invariant-loop-i
invariant-loop-i g l = Levelling g.W.Width.BYTES l.initial.h l.c l.table l.k l.h l.i

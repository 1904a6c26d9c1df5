use Rattle.fresh.proofs.FreshWords.{Clearing}
use Rattle.fresh.proofs.write_heads.Given as goal

abbrev pub invariant-loop-c : goal.invariant-loop-c
invariant-loop-c g l = Clearing g.W.Width.BYTES l.initial.h l.h l.c

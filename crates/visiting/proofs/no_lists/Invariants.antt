use Rattle.std.proofs.Common.{length}
use Rattle.model.specs.Shape.{end_of}
use Rattle.visiting.proofs.Counting.{NoneListed}
use Rattle.visiting.proofs.no_lists.Given as goal

abbrev pub invariant-loop-c : goal.invariant-loop-c
invariant-loop-c g l = NoneListed g.W.Width.BYTES l.h (end_of (length l.h)) l.any l.c

use Rattle.std.proofs.Common.{◌-◌, length}
use Rattle.model.specs.Shape.{shape, end_of}
use Rattle.visiting.proofs.Counting.{ListsInv}
use Rattle.visiting.proofs.count_lists.Given as goal

abbrev pub invariant-loop-c : goal.invariant-loop-c
invariant-loop-c g l = ListsInv g.W.Width.BYTES l.h (end_of (length l.h)) l.m l.before l.left l.c

abbrev pub decreases-loop-c : goal.decreases-loop-c
decreases-loop-c g l = (shape g.W.Width.BYTES).classes - l.c

use Rattle.std.proofs.Common.{◌≡◌, length}
use Rattle.relinking.proofs.LinkLaws.{Renewing}
use Rattle.relinking.proofs.link_classes.Given as goal

abbrev pub invariant-loop-c : goal.invariant-loop-c
invariant-loop-c g l = Renewing g.W.Width.BYTES l.initial.h l.h l.c × (length l.table ≡ length l.initial.table)

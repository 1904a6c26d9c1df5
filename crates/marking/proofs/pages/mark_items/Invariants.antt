use Rattle.std.proofs.Common.{◌-◌, ◌<◌}
use Rattle.marking.proofs.PageLaws.{ItemsInv}
use Rattle.marking.proofs.pages.mark_items.Given as goal

abbrev pub invariant-loop-m : goal.invariant-loop-m
invariant-loop-m g l = ItemsInv g.W.Width.BYTES l.h l.initial.m l.first l.stop l.c l.m l.marks l.wrong l.above l.i × (l.i < l.stop)

abbrev pub decreases-loop-m : goal.decreases-loop-m
decreases-loop-m g l = l.stop - l.i

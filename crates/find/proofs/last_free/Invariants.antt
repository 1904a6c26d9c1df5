use Rattle.std.proofs.Common.{length}
use Rattle.model.specs.Shape.{shape}
use Rattle.model.specs.Layout.{Layout}
use Rattle.model.specs.Sound.{Here}
use Rattle.model.proofs.blocks.FreeWalk.{left}
use Rattle.find.proofs.NearestLaws.{Along}
use Rattle.find.proofs.last_free.Given as goal

abbrev pub invariant-loop-next : goal.invariant-loop-next
invariant-loop-next g l = (L : Layout) → Here (shape g.W.Width.BYTES) l.h L → Along g.W.Width.BYTES l.h L l.a.0 l.prev.0 l.next.0

abbrev pub decreases-loop-next : goal.decreases-loop-next
decreases-loop-next g l = left (length l.h) l.next.0

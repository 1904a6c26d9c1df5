use Rattle.std.proofs.Common.{◌-◌, ◌≡◌, length}
use Rattle.model.specs.Shape.{shape, end_of}
use Rattle.model.specs.Layout.{Layout}
use Rattle.model.specs.Sound.{Here}
use Rattle.recovering.proofs.RecoverLaws.{Midway}
use Rattle.recovering.proofs.recover.Given as goal

abbrev pub invariant-loop-p : goal.invariant-loop-p
invariant-loop-p g l = ((L : Layout) → Here (shape g.W.Width.BYTES) l.initial.h L → Midway g.W.Width.BYTES l.initial.h l.h L l.p.0 l.prev.0 l.touching l.count) × (l.end.0 ≡ end_of (length l.initial.h))

abbrev pub decreases-loop-p : goal.decreases-loop-p
decreases-loop-p g l = l.end.0 - l.p.0

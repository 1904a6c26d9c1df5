use Rattle.std.proofs.Common.{length, ◌≡◌, ◌-◌}
use Rattle.relinking.proofs.GatherLaws.{Gathering}
use Rattle.model.specs.Shape.{end_of}
use Rattle.relinking.proofs.gather.Given as goal

abbrev pub invariant-loop-p : goal.invariant-loop-p
invariant-loop-p g l = Gathering g.W.Width.BYTES l.h l.c l.table l.p.0 l.m × (length l.table ≡ length l.initial.table) × (l.end.0 ≡ end_of (length l.h))

abbrev pub decreases-loop-p : goal.decreases-loop-p
decreases-loop-p g l = l.end.0 - l.p.0

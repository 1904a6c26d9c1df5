use Rattle.walking.proofs.Walks.{Halts}
use Rattle.walking.specs.Told.{end_from}
use Rattle.walking.proofs.mark_blocks.Given as goal

abbrev pub invariant-loop-at : goal.invariant-loop-at
invariant-loop-at g l = Halts g.W.Width.BYTES l.h (end_from l.initial.at) l.initial.m l.m l.at

abbrev pub decreases-loop-at : goal.decreases-loop-at
decreases-loop-at g l = l.at.left

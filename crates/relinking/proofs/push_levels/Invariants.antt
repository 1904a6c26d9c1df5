use Rattle.std.proofs.Common.{◌-◌}
use Rattle.relinking.proofs.Rising.{Rising}
use Rattle.relinking.proofs.push_levels.Given as goal

abbrev pub invariant-loop-k : goal.invariant-loop-k
invariant-loop-k g l = Rising g.W.Width.BYTES l.initial.h l.c l.table l.h l.k

abbrev pub decreases-loop-k : goal.decreases-loop-k
decreases-loop-k g l = l.most - l.k

use Rattle.std.proofs.Common.{◌-◌, ◌<◌}
use Rattle.showing.proofs.map.draw.Given as goal

abbrev pub invariant-loop-at : goal.invariant-loop-at
invariant-loop-at g l = l.column < 64

abbrev pub decreases-loop-at : goal.decreases-loop-at
decreases-loop-at g l = l.end.0 - l.at

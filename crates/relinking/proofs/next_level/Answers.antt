use Rattle.relinking.proofs.Rising.{next_start, next_done}
use Rattle.relinking.proofs.next_level.Goals as goal

pub loop-e-init : goal.loop-e-init
loop-e-init c = next_start _ _ _ c.requires

pub returns : goal.returns
returns c = next_done c.loop-e.invariant c.loop-e-test.false

use Rattle.std.proofs.Common.{arith}
use Rattle.words.proofs.CopyLaws.{copy_start, copy_turn, copy_done}
use Rattle.words.proofs.bytes.copy_bytes.Goals as goal

pub loop-i-init : goal.loop-i-init
loop-i-init c = copy_start _ _ _ _ c.requires

pub loop-i-preserved : goal.loop-i-preserved
loop-i-preserved c = copy_turn c.loop-i.invariant (omega arith)

pub shape_of-b : goal.shape_of-b
shape_of-b c = c.loop-i.invariant.pasting.same

pub returns : goal.returns
returns c = copy_done c.loop-i.invariant (omega (arith, c.loop-i.invariant.pasting.most))

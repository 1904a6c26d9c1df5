use Rattle.std.proofs.Common.{arith}
use Rattle.model.specs.Shape.{shape}
use Rattle.model.proofs.blocks.Taken.{takes_low, takes_whole}
use Rattle.placing.proofs.taken.Goals as goal

pub returns-then-need-least_free : goal.returns-then-need-least_free
returns-then-need-least_free g c = takes_low (shape g.W.Width.BYTES) _ _ (omega arith)

pub returns-else-need-least_free : goal.returns-else-need-least_free
returns-else-need-least_free g c = takes_whole (shape g.W.Width.BYTES) _ _ (omega arith)

use Rattle.std.proofs.Common.{arith}
use Rattle.holding.proofs.HoldingLaws.{by_shown, class_few, block_least, holds_none, holds_item, holds_block}
use Rattle.holding.proofs.shown.Goals as goal

pub returns-in_err-class : goal.returns-in_err-class
returns-in_err-class g c = rw c.from_residual.ensures (holds_none g.met.W.Width.width _ _ c.requires (by_shown g.met.W.Width.width) c.in_err-class.ensures)

pub item_shown-requires : goal.item_shown-requires
item_shown-requires g c = class_few g.met.W.Width.width _ _ c.requires _ _ _ (rw c.in-Item.is at c.in_ok-class.ensures)

pub block_capacity-requires : goal.block_capacity-requires
block_capacity-requires g c = omega (arith, g.met.W.Width.width, block_least g.met.W.Width.width _ _ c.requires _ (rw c.in-Variable.is at c.in_ok-class.ensures))

pub returns-in-Item : goal.returns-in-Item
returns-in-Item g c = holds_item g.met.W.Width.width _ _ c.requires (by_shown g.met.W.Width.width) _ _ _ (rw c.in-Item.is at c.in_ok-class.ensures) _ (c.item_shown.ensures)

pub returns-in-Variable : goal.returns-in-Variable
returns-in-Variable g c = holds_block g.met.W.Width.width _ _ c.requires (by_shown g.met.W.Width.width) _ (rw c.in-Variable.is at c.in_ok-class.ensures) _ (λ t e. omega (arith, e))

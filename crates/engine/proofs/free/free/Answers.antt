use Rattle.engine.proofs.FreeLaws.{free_none, item_in, free_item, block_used, free_block}
use Rattle.engine.proofs.free.free.Goals as goal

pub returns-in_err-at : goal.returns-in_err-at
returns-in_err-at g c = rw c.from_residual.ensures (free_none _ c.requires c.in_err-at.ensures)

pub give-requires : goal.give-requires
give-requires g c = item_in _ c.requires _ _ _ (rw c.in-Item.is at c.in_ok-at.ensures)

pub release-requires : goal.release-requires
release-requires g c = block_used _ c.requires (rw c.in-Variable.is at c.in_ok-at.ensures)

pub returns-in-Item : goal.returns-in-Item
returns-in-Item g c = free_item _ c.requires _ _ _ (rw c.in-Item.is at c.in_ok-at.ensures) c.give.ensures

pub returns-in-Variable : goal.returns-in-Variable
returns-in-Variable g c = free_block _ c.requires (rw c.in-Variable.is at c.in_ok-at.ensures) c.release.ensures

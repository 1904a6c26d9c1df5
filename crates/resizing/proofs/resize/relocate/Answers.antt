use Rattle.resizing.proofs.ResizeLaws.{exits, nothing_live, item_at_is, block_at}
use Rattle.resizing.proofs.resize.relocate.Goals as goal

pub returns-in_err-at : goal.returns-in_err-at
returns-in_err-at g c = let p = exits c.in_err-at.ensures.value c.from_residual.ensures.1 in rw p.1 (nothing_live _ c.requires.ready _ _ (rw p.0 at c.find.ensures))

pub move_item-requires : goal.move_item-requires
move_item-requires g c = record { item_live_at = item_at_is _ c.requires.ready _ _ _ (rw (c.in_ok-at.ensures.ok_part, c.in-Item.is) at c.find.ensures); asked = c.requires.asked }

pub move_block-requires : goal.move_block-requires
move_block-requires g c = record { block_live_at = block_at _ c.requires.ready _ (rw (c.in_ok-at.ensures.ok_part, c.in-Variable.is) at c.find.ensures); asked = c.requires.asked }

pub returns-in-Item : goal.returns-in-Item
returns-in-Item g c = c.move_item.ensures

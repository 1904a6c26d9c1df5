use Rattle.resizing.proofs.ResizeLaws.{exits, nothing_live, item_at_is, block_at}
use Rattle.resizing.proofs.resize.stay.Goals as goal

pub returns-in_err-at : goal.returns-in_err-at
returns-in_err-at g c = let p = exits c.in_err-at.ensures.value c.from_residual.ensures.1 in rw p.1 (nothing_live _ c.requires.ready _ _ (rw p.0 at c.find.ensures))

pub stay_item-requires : goal.stay_item-requires
stay_item-requires g c = record { by_index = (_, item_at_is _ c.requires.ready _ _ _ (rw (c.in_ok-at.ensures.ok_part, c.in-Item.is) at c.find.ensures)); asked = c.requires.asked }

pub stay_block-requires : goal.stay_block-requires
stay_block-requires g c = record { block_live_at = block_at _ c.requires.ready _ (rw (c.in_ok-at.ensures.ok_part, c.in-Variable.is) at c.find.ensures); asked = c.requires.asked }

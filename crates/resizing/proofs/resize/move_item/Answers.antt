use Rattle.std.proofs.Common.{rules}
use Rattle.resizing.proofs.ResizeLaws.{exits, moved_nowhere, few, item_holds, item_still, item_gone}
use Rattle.resizing.proofs.resize.move_item.Goals as goal

pub item_shown-requires : goal.item_shown-requires
item_shown-requires g c = few c.requires.item_live_at

pub carry-requires : goal.carry-requires
carry-requires g c = record { holding = rw c.item_shown.ensures (item_holds c.requires.item_live_at); asked = c.requires.asked }

pub give-requires : goal.give-requires
give-requires g c = item_still c.requires.item_live_at (rw c.item_shown.ensures at c.carry.ensures) c.requires.asked _ c.in_ok-new.ensures.ok_part (search rules)

pub returns-in_err-new : goal.returns-in_err-new
returns-in_err-new g c = let p = exits c.in_err-new.ensures.value c.from_residual.ensures.1 in rw p.1 (moved_nowhere (rw c.item_shown.ensures at c.carry.ensures) (item_holds c.requires.item_live_at) p.0)

pub returns : goal.returns
returns g c = item_gone c.requires.item_live_at (rw c.item_shown.ensures at c.carry.ensures) c.requires.asked _ c.in_ok-new.ensures.ok_part _ c.give.ensures

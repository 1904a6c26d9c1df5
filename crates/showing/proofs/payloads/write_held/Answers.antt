use Rattle.showing.proofs.ShowingLaws.{on_items}
use Rattle.showing.proofs.payloads.write_held.Goals as goal

pub write_items-requires : goal.write_items-requires
write_items-requires g c = on_items c.requires _ c.in-Page.is _ c.first_item_at.ensures

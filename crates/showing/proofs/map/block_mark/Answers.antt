use Rattle.showing.proofs.ShowingLaws.{on_page}
use Rattle.showing.proofs.map.block_mark.Goals as goal

pub page_mark-requires : goal.page_mark-requires
page_mark-requires g c = on_page c.requires _ c.in-Page.is

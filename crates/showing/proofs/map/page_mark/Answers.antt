use Rattle.showing.proofs.ShowingLaws.{page_filled}
use Rattle.showing.proofs.map.page_mark.Goals as goal

pub tenths-requires : goal.tenths-requires
tenths-requires g c = page_filled c.requires _ c.page_at-page.ensures

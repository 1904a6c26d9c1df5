use Rattle.showing.proofs.ShowingLaws.{on_page}
use Rattle.showing.proofs.blocks.write_block.Goals as goal

pub write_page-requires : goal.write_page-requires
write_page-requires g c = on_page c.requires _ c.in-Page.is

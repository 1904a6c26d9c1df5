use Rattle.fresh.proofs.FreshWords.{fresh_drawn}
use Rattle.fresh.proofs.lay.Goals as goal

pub returns : goal.returns
returns g c = fresh_drawn g.met.W.Width.width _ _ _ _ _ c.end_of-end.ensures c.requires.0 c.write_header.ensures c.write_heads.ensures c.write_block.ensures

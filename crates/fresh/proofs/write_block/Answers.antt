use Rattle.std.proofs.Common.{refl}
use Rattle.model.specs.Picture.{draw}
use Rattle.fresh.specs.Fresh.{after_heads}
use Rattle.fresh.proofs.write_block.Goals as goal

pub returns : goal.returns
unfolding draw after_heads
returns g c = rw (c.put_free.ensures, c.put_word.ensures, c.index_tag.ensures, c.index_far_tag_at.ensures, c.start-data.ensures) refl

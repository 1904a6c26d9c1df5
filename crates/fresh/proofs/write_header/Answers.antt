use Rattle.std.proofs.Common.{refl}
use Rattle.model.specs.Picture.{draw}
use Rattle.fresh.specs.Fresh.{before_heads}
use Rattle.fresh.proofs.write_header.Goals as goal

pub returns : goal.returns
unfolding draw before_heads
returns g c = rw (c.put_word-6.ensures, c.put_word-5.ensures, c.put_word-4.ensures, c.put_word-3.ensures, c.put_word-2.ensures, c.put_word.ensures, c.index_tag.ensures, c.index_tag_at.ensures, c.end_at.ensures, c.first_free_at.ensures, c.index.ensures, c.index_at.ensures, c.data_at.ensures, c.magic.ensures, c.start-data.ensures) refl

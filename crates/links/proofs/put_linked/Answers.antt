use Rattle.model.specs.Picture.{draw}
use Rattle.links.specs.Links.{linked_bytes}
use Rattle.links.proofs.put_linked.Goals as goal

pub returns : goal.returns
unfolding linked_bytes draw
returns g c = rw (c.put_if.ensures, c.put_free.ensures, c.put_word.ensures, c.back_at-back.ensures, c.link_at-link.ensures)

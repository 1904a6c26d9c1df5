use Rattle.model.specs.Picture.{draw}
use Rattle.links.specs.Links.{free_words}
use Rattle.links.proofs.put_free.Goals as goal

pub returns : goal.returns
unfolding draw free_words
returns g c = cc

use Rattle.numbering.proofs.Telling.{told}
use Rattle.numbering.proofs.resize_in_place.Goals as goal

pub returns : goal.returns
returns g c = told _ c.resize_in_place.result _ _ c.resize_in_place.ensures c.number.ensures

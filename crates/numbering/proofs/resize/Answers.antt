use Rattle.numbering.proofs.Telling.{told}
use Rattle.numbering.proofs.resize.Goals as goal

pub returns : goal.returns
returns g c = told _ c.resize.result _ _ c.resize.ensures c.number.ensures

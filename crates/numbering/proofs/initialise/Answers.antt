use Rattle.numbering.proofs.Telling.{told}
use Rattle.numbering.proofs.initialise.Goals as goal

pub returns : goal.returns
returns g c = told _ c.initialise.result _ _ c.initialise.ensures c.number.ensures

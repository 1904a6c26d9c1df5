use Rattle.numbering.proofs.Telling.{told}
use Rattle.numbering.proofs.allocate.Goals as goal

pub returns : goal.returns
returns g c = told _ c.allocate.result _ _ c.allocate.ensures c.number.ensures

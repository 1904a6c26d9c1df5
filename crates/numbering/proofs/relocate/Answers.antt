use Rattle.numbering.proofs.Telling.{told}
use Rattle.numbering.proofs.relocate.Goals as goal

pub returns : goal.returns
returns g c = told _ c.relocate.result _ _ c.relocate.ensures c.number.ensures

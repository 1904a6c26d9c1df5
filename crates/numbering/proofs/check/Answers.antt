use Rattle.numbering.proofs.Telling.{told}
use Rattle.numbering.proofs.check.Goals as goal

pub returns : goal.returns
returns g c = told _ c.check.result _ _ c.check.ensures c.number.ensures

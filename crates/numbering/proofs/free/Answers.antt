use Rattle.numbering.proofs.Telling.{told}
use Rattle.numbering.proofs.free.Goals as goal

pub returns : goal.returns
returns g c = told _ c.free.result _ _ c.free.ensures c.number.ensures

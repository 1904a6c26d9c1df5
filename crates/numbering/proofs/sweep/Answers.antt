use Rattle.numbering.proofs.Telling.{told_swept}
use Rattle.numbering.proofs.sweep.Goals as goal

pub returns : goal.returns
returns g c = told_swept _ c.sweep.result _ _ c.sweep.ensures c.pages.ensures

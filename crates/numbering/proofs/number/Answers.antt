use Rattle.numbering.proofs.Telling.{number_granted, number_refused}
use Rattle.numbering.proofs.number.Goals as goal

pub returns-in-Ok : goal.returns-in-Ok
returns-in-Ok c = number_granted _ _ _ c.in-Ok.is c.pages.ensures

pub returns-in-Err : goal.returns-in-Err
returns-in-Err c = number_refused _ _ _ c.in-Err.is c.pages-in-Err.ensures

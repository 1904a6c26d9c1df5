use Rattle.records.proofs.Calling.{counts_line, counts_refused}
use Rattle.records.proofs.count.Goals as goal

pub returns-in-Ok : goal.returns-in-Ok
returns-in-Ok c = counts_line _ _ _ c.in-Ok.ensures

pub returns-in-Err : goal.returns-in-Err
returns-in-Err c = counts_refused _ _ _ _ c.in-Err.ensures c.told.ensures

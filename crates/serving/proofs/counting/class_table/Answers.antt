use Rattle.model.specs.Reading.{rows_from, row, total}
use Rattle.serving.proofs.Together.{rows_granted, rows_refused}
use Rattle.serving.proofs.counting.class_table.Goals as goal

pub returns-in-Ok : goal.returns-in-Ok
returns-in-Ok g c = rows_granted _ _ _ _ c.try_class_table.ensures c.in-Ok.is

pub returns-in-Err : goal.returns-in-Err
unfolding rows_from row total
returns-in-Err g c = rows_refused _ g.met.W.Width.width _ _ _ c.try_class_table.ensures c.in-Err.is

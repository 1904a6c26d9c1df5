use Rattle.reading.proofs.CountLaws.{told_none}
use Rattle.serving.proofs.Answering.{count_refused}
use Rattle.serving.proofs.counting.CountedFromResultStatisticsRefusal.from.Goals as goal

pub returns-in-Err : goal.returns-in-Err
returns-in-Err c = count_refused _ _ _ _ c.in-Err.is c.from.ensures (told_none _ c.default.ensures)

use Rattle.std.proofs.Common.{[]}
use Rattle.model.specs.Shape.{shape}
use Rattle.model.specs.Calls.{Counts}
use Rattle.serving.specs.Counting.{told_counted}
use Rattle.model.specs.Reading.{counted}
use Rattle.examining.proofs.Examining.{passed_on, refuses}
use Rattle.serving.proofs.Answering.{tells_answer}
use Rattle.serving.proofs.counting.statistics.Goals as goal

pub returns-in_err-examine : goal.returns-in_err-examine
returns-in_err-examine g c = passed_on (λ r. Counts (shape g.W.Width.BYTES) c.args.h.now (told_counted r)) _ _ c.from_residual.ensures.1 (refuses _ _ _ _ _ _ c.examine.ensures c.in_err-examine.was)

pub returns : goal.returns
returns g c = tells_answer _ _ (counted []) (λ L. counted L.blocks) _ c.examine.ensures c.in_ok-examine.was _ c.count.ensures

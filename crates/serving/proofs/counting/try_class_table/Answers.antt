use Rattle.serving.specs.Counting.{TriedTable}
use Rattle.examining.proofs.Examining.{passed_on, refuses}
use Rattle.serving.proofs.Answering.{table_told}
use Rattle.serving.proofs.counting.try_class_table.Goals as goal

pub returns-in_err-examine : goal.returns-in_err-examine
returns-in_err-examine g c = passed_on (λ r. TriedTable g.W.Width.BYTES c.args.h.now r) _ _ c.from_residual.ensures.1 (refuses _ _ _ _ _ _ c.examine.ensures c.in_err-examine.was)

pub returns : goal.returns
returns g c = table_told g.met.W.Width.width _ _ c.examine.ensures c.in_ok-examine.was _ c.tabulate.ensures

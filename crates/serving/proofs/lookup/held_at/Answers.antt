use Rattle.examining.proofs.Examining.{passed_on}
use Rattle.serving.specs.Lookup.{HeldTold}
use Rattle.serving.proofs.Answering.{held_refused, held}
use Rattle.serving.proofs.lookup.held_at.Goals as goal

pub returns-in_err-heap : goal.returns-in_err-heap
returns-in_err-heap g c = passed_on (λ r. HeldTold g.W.Width.BYTES c.args.h.now c.args.a.0 r) _ _ c.from_residual.ensures.1 (held_refused _ _ _ _ c.examine.ensures _ c.in_err-heap.was)

pub returns : goal.returns
returns g c = held _ _ _ _ c.examine.ensures c.in_ok-heap.was _ (rw c.heap.view_is at c.shown.ensures) _ c.ok_or.ensures.value

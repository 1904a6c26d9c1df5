use Rattle.std.proofs.Common.{◌∙◌}
use Rattle.model.specs.Shape.{shape}
use Rattle.model.specs.Calls.{Keeps}
use Rattle.serving.specs.Answers.{outcome}
use Rattle.examining.proofs.Examining.{passed_on, fine_for, sized_refuses, sized_decides}
use Rattle.serving.proofs.Readied.{holding_for, ready_as}
use Rattle.serving.proofs.Resizing.{keeps}
use Rattle.serving.proofs.resize.keep.Goals as goal

pub keep-requires : goal.keep-requires
keep-requires g c = rw c.heap.view_is (ready_as g.met.W.Width.width _ (holding_for g.met.W.Width.width _ _ _ c.examine_for.ensures c.in_ok-heap.was).0 _ (fine_for _ _ _ _ c.examine_for.ensures c.in_ok-heap.was).0.1)

pub returns-in_err-heap : goal.returns-in_err-heap
returns-in_err-heap g c = passed_on (λ r. Keeps (shape g.W.Width.BYTES) c.args.h.now c.args.a.0 c.args.n (outcome r c.args.h.now)) _ _ c.from_residual.ensures.1 (sized_refuses _ _ _ _ _ _ c.examine_for.ensures c.in_err-heap.was)

pub returns : goal.returns
returns g c = sized_decides _ _ _ _ _ c.examine_for.ensures c.in_ok-heap.was _ (λ L h. keeps _ _ _ _ L _ (c.heap.view_is ∙ (fine_for _ _ _ _ c.examine_for.ensures c.in_ok-heap.was).0.1) h _ c.keep.ensures)

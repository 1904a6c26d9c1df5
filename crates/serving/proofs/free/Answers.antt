use Rattle.std.proofs.Common.{◌∙◌}
use Rattle.model.specs.Shape.{shape}
use Rattle.model.specs.Calls.{Frees}
use Rattle.serving.specs.Answers.{outcome}
use Rattle.examining.proofs.Examining.{passed_on, refuses, decides}
use Rattle.serving.proofs.Readied.{holding, may_read_end, end_within, part_is, part_ready, long_part}
use Rattle.serving.proofs.Freeing.{gave_back, nothing_there}
use Rattle.serving.proofs.free.Goals as goal

pub stored_end-end-requires : goal.stored_end-end-requires
stored_end-end-requires g c = may_read_end g.met.W.Width.width _ (holding g.met.W.Width.width _ _ c.examine.ensures c.in_ok-examine.was)

pub slice_bounds-free-end : goal.slice_bounds-free-end
slice_bounds-free-end g c = end_within g.met.W.Width.width _ (holding g.met.W.Width.width _ _ c.examine.ensures c.in_ok-examine.was) _ c.stored_end-end.ensures

pub free-requires : goal.free-requires
free-requires g c = part_ready g.met.W.Width.width _ (holding g.met.W.Width.width _ _ c.examine.ensures c.in_ok-examine.was) _ c.stored_end-end.ensures

pub returns-in-Some : goal.returns-in-Some
returns-in-Some g c = decides _ _ _ _ _ c.examine.ensures c.in_ok-examine.was _ (λ L h. gave_back _ _ _ (part_is g.met.W.Width.width _ (holding g.met.W.Width.width _ _ c.examine.ensures c.in_ok-examine.was) _ c.stored_end-end.ensures) _ _ _ _ (c.free.auto.h ∙ long_part g.met.W.Width.width _ (holding g.met.W.Width.width _ _ c.examine.ensures c.in_ok-examine.was) _ c.stored_end-end.ensures) c.free.ensures L h c.in-Some.is)

pub returns-in_err-examine : goal.returns-in_err-examine
returns-in_err-examine g c = passed_on (λ r. Frees (shape g.W.Width.BYTES) c.args.h.now c.args.a.0 (outcome r c.args.h.now)) _ _ c.from_residual.ensures.1 (refuses _ _ _ _ _ _ c.examine.ensures c.in_err-examine.was)

pub returns-in-None : goal.returns-in-None
returns-in-None g c = decides _ _ _ _ _ c.examine.ensures c.in_ok-examine.was _ (λ L h. nothing_there _ _ _ (part_is g.met.W.Width.width _ (holding g.met.W.Width.width _ _ c.examine.ensures c.in_ok-examine.was) _ c.stored_end-end.ensures) _ _ _ _ (c.free.auto.h ∙ long_part g.met.W.Width.width _ (holding g.met.W.Width.width _ _ c.examine.ensures c.in_ok-examine.was) _ c.stored_end-end.ensures) c.free.ensures L h c.in-None.is)

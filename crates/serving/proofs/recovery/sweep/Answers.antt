use Rattle.std.proofs.Common.{◌∙◌}
use Rattle.model.specs.Shape.{shape}
use Rattle.model.specs.Calls.{Sweeps}
use Rattle.serving.specs.Answers.{swept_outcome}
use Rattle.examining.proofs.Examining.{passed_on, refuses, decides}
use Rattle.serving.proofs.Readied.{holding, may_read_end, end_within, part_is, part_ready, long_part}
use Rattle.serving.proofs.Sweeping.{swept_rule}
use Rattle.serving.proofs.recovery.sweep.Goals as goal

pub stored_end-end-requires : goal.stored_end-end-requires
stored_end-end-requires g c = may_read_end g.met.W.Width.width _ (holding g.met.W.Width.width _ _ c.examine.ensures c.in_ok-examine.was)

pub slice_bounds-sweep-end : goal.slice_bounds-sweep-end
slice_bounds-sweep-end g c = end_within g.met.W.Width.width _ (holding g.met.W.Width.width _ _ c.examine.ensures c.in_ok-examine.was) _ c.stored_end-end.ensures

pub sweep-requires : goal.sweep-requires
sweep-requires g c = let r = part_ready g.met.W.Width.width _ (holding g.met.W.Width.width _ _ c.examine.ensures c.in_ok-examine.was) _ c.stored_end-end.ensures in (r.sound, r.short)

pub returns-in_err-examine : goal.returns-in_err-examine
returns-in_err-examine g c = passed_on (λ r. Sweeps (shape g.W.Width.BYTES) c.args.h.now (swept_outcome r c.args.h.now)) _ _ c.from_residual.ensures.1 (refuses _ _ _ _ _ _ c.examine.ensures c.in_err-examine.was)

pub returns : goal.returns
returns g c = decides _ _ _ _ _ c.examine.ensures c.in_ok-examine.was _ (λ L h. swept_rule _ _ _ (part_is g.met.W.Width.width _ (holding g.met.W.Width.width _ _ c.examine.ensures c.in_ok-examine.was) _ c.stored_end-end.ensures) _ _ _ (c.sweep.auto.h ∙ long_part g.met.W.Width.width _ (holding g.met.W.Width.width _ _ c.examine.ensures c.in_ok-examine.was) _ c.stored_end-end.ensures) c.sweep.ensures L h)

use Rattle.std.proofs.Common.{◌∙◌, arith}
use Rattle.model.specs.Shape.{shape}
use Rattle.model.specs.Calls.{ResizesInPlace}
use Rattle.serving.specs.Answers.{outcome}
use Rattle.examining.proofs.Examining.{passed_on, sized_refuses, sized_decides}
use Rattle.serving.proofs.Readied.{holding_for, may_read_end, end_within, part_is, part_ready, long_part}
use Rattle.serving.proofs.Resizing.{stays_put}
use Rattle.serving.proofs.resize.resize_in_place.Goals as goal

pub stored_end-end-requires : goal.stored_end-end-requires
stored_end-end-requires g c = may_read_end g.met.W.Width.width _ (holding_for g.met.W.Width.width _ _ _ c.examine_for.ensures c.in_ok-examine_for.was).0

pub slice_bounds-stay-end : goal.slice_bounds-stay-end
slice_bounds-stay-end g c = omega (arith, end_within g.met.W.Width.width _ (holding_for g.met.W.Width.width _ _ _ c.examine_for.ensures c.in_ok-examine_for.was).0 _ c.stored_end-end.ensures)

pub stay-requires : goal.stay-requires
stay-requires g c = record { ready = part_ready g.met.W.Width.width _ (holding_for g.met.W.Width.width _ _ _ c.examine_for.ensures c.in_ok-examine_for.was).0 _ c.stored_end-end.ensures; asked = (holding_for g.met.W.Width.width _ _ _ c.examine_for.ensures c.in_ok-examine_for.was).1 }

pub returns-in_err-examine_for : goal.returns-in_err-examine_for
returns-in_err-examine_for g c = passed_on (λ r. ResizesInPlace (shape g.W.Width.BYTES) c.args.h.now c.args.a.0 c.args.n (outcome r c.args.h.now)) _ _ c.from_residual.ensures.1 (sized_refuses _ _ _ _ _ _ c.examine_for.ensures c.in_err-examine_for.was)

pub returns : goal.returns
returns g c = sized_decides _ _ _ _ _ c.examine_for.ensures c.in_ok-examine_for.was _ (λ L h. stays_put _ _ _ _ L _ (part_is g.met.W.Width.width _ (holding_for g.met.W.Width.width _ _ _ c.examine_for.ensures c.in_ok-examine_for.was).0 _ c.stored_end-end.ensures) h _ _ _ c.stay.ensures (c.stay.auto.h ∙ long_part g.met.W.Width.width _ (holding_for g.met.W.Width.width _ _ _ c.examine_for.ensures c.in_ok-examine_for.was).0 _ c.stored_end-end.ensures))

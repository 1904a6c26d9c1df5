use Rattle.model.specs.Shape.{shape}
use Rattle.model.specs.Calls.{Allocates}
use Rattle.serving.specs.Answers.{outcome}
use Rattle.examining.proofs.Examining.{passed_on, sized_refuses, sized_decides}
use Rattle.serving.proofs.Readied.{holding_for}
use Rattle.serving.proofs.Allocating.{allocates}
use Rattle.serving.proofs.allocate.Goals as goal

pub allocate-requires : goal.allocate-requires
allocate-requires g c = let z = holding_for g.met.W.Width.width _ _ _ c.examine_for.ensures c.in_ok-examine_for.was in record { holding = z.0; asked = z.1 }

pub returns-in_err-examine_for : goal.returns-in_err-examine_for
returns-in_err-examine_for g c = passed_on (λ r. Allocates (shape g.W.Width.BYTES) c.args.h.now c.args.n (outcome r c.args.h.now)) _ _ c.from_residual.ensures.1 (sized_refuses _ _ _ _ _ _ c.examine_for.ensures c.in_err-examine_for.was)

pub returns : goal.returns
returns g c = sized_decides _ _ _ _ _ c.examine_for.ensures c.in_ok-examine_for.was _ (allocates _ _ _ _ _ _ c.allocate.ensures c.ok_or.ensures.value)

use Rattle.std.proofs.Common.{refl}
use Rattle.model.specs.Shape.{shape}
use Rattle.model.specs.Calls.{Checks}
use Rattle.serving.specs.Answers.{outcome}
use Rattle.examining.proofs.Examining.{passed_on, examined_unfit, examined_fit, refuses, decides}
use Rattle.serving.proofs.check.Goals as goal

pub returns-in_err-verdict : goal.returns-in_err-verdict
returns-in_err-verdict g c =
    passed_on (λ r. Checks (shape g.W.Width.BYTES) c.args.h.now (outcome r c.args.h.now)) _ _ c.from_residual.ensures.1 (refuses _ _ _ _ _ _ (examined_unfit _ _ _ c.verdict.ensures _ c.in_err-verdict.was) refl)

pub returns : goal.returns
returns g c = decides _ _ _ _ _ (examined_fit _ _ _ c.verdict.ensures _ c.in_ok-verdict.was _ refl) refl _ (λ L h. refl)

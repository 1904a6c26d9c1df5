use Rattle.model.specs.Calls.{Steps}
use Rattle.serving.specs.Walking.{told_step}
use Rattle.model.specs.Shape.{shape}
use Rattle.model.specs.Reading.{ended, step}
use Rattle.examining.proofs.Examining.{passed_on, refuses}
use Rattle.serving.proofs.Answering.{tells_answer}
use Rattle.serving.proofs.walks.Walk.step.Goals as goal

pub returns-in_err-examine : goal.returns-in_err-examine
returns-in_err-examine g c = passed_on (λ r. Steps (shape g.W.Width.BYTES) c.args.h.now c.args.self.at.0 (told_step g.W.Width.BYTES c.args.self.at.0 r)) _ _ c.from_residual.ensures.1 (refuses _ _ _ _ _ _ c.examine.ensures c.in_err-examine.was)

pub returns-in_default : goal.returns-in_default
returns-in_default g c = tells_answer _ _ (ended (shape g.W.Width.BYTES) _) (λ L. step (shape g.W.Width.BYTES) _ L) _ c.examine.ensures c.in_ok-examine.was _ c.in_default.ensures.answer

pub returns : goal.returns
returns g c = tells_answer _ _ (ended (shape g.W.Width.BYTES) _) (λ L. step (shape g.W.Width.BYTES) _ L) _ c.examine.ensures c.in_ok-examine.was _ c.in-Some.ensures.answer

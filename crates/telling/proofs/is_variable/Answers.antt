use Rattle.telling.proofs.Tellings.{tells_no, tells_eq}
use Rattle.std.proofs.Common.{sym, ◌∙◌, arith}
use Rattle.telling.proofs.is_variable.Goals as goal

pub returns-then-s-least_variable : goal.returns-then-s-least_variable
returns-then-s-least_variable g c = tells_no _ (λ y. omega (arith, c.if-s-least_variable.true, c.least_variable.ensures, y.0))

pub returns : goal.returns
returns g c = tells_eq _ _ _ (λ e. (omega (arith, c.if-s-least_variable.false, c.least_variable.ensures), sym c.tag_before.ensures ∙ e)) (λ y. c.tag_before.ensures ∙ y.1)

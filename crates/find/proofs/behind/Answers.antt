use Rattle.std.proofs.Common.{arith, ◌∙◌, sym}
use Rattle.find.proofs.NearestLaws.{behind_free, behind_none}
use Rattle.find.proofs.behind.Goals as goal

pub returns-then-prev-eq0 : goal.returns-then-prev-eq0
returns-then-prev-eq0 g c = c.start.ensures ∙ sym (behind_none _ _ _ c.if-prev-eq0.true)

pub overflow_add-result : goal.overflow_add-result
overflow_add-result g c = omega (arith, c.word.ensures, behind_free g.W.Width.BYTES c.args.h.now c.args.prev.0 c.if-prev-eq0.false, c.requires.1)

pub returns : goal.returns
returns g c = omega (arith, c.word.ensures, behind_free g.W.Width.BYTES c.args.h.now c.args.prev.0 c.if-prev-eq0.false)

use Rattle.std.proofs.Common.{eq-eqb, ne_eqb}
use Rattle.links.proofs.put_if.Goals as goal

pub returns-then-at-ne0 : goal.returns-then-at-ne0
returns-then-at-ne0 g c = rw (ne_eqb c.args.at.0 0 c.if-at-ne0.true) c.put_word.ensures

pub returns-else-at-ne0 : goal.returns-else-at-ne0
returns-else-at-ne0 g c = simp (eq-eqb _ _ c.if-at-ne0.false)

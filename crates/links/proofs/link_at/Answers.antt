use Rattle.std.proofs.Common.{eq-eqb, ne_eqb}
use Rattle.links.proofs.link_at.Goals as goal

pub returns-then-prev-eq0 : goal.returns-then-prev-eq0
returns-then-prev-eq0 g c = simp (eq-eqb _ _ c.if-prev-eq0.true, c.first_free_at.ensures)

pub returns : goal.returns
returns g c = simp (ne_eqb _ _ c.if-prev-eq0.false, c.next_at.ensures)

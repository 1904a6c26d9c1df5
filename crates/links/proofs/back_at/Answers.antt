use Rattle.std.proofs.Common.{eq-eqb, ne_eqb, arith}
use Rattle.links.proofs.back_at.Goals as goal

pub returns-then-next-eq0 : goal.returns-then-next-eq0
returns-then-next-eq0 g c = simp (eq-eqb _ _ c.if-next-eq0.true)

pub word-requires : goal.word-requires
word-requires g c = omega (arith, c.requires.block c.if-next-eq0.false)

pub previous_at-requires : goal.previous_at-requires
previous_at-requires g c = omega (arith, c.requires.block c.if-next-eq0.false, c.word.ensures)

pub returns : goal.returns
returns g c = simp (ne_eqb _ _ c.if-next-eq0.false, c.previous_at.ensures, c.word.ensures)

use Rattle.std.proofs.Common.{eq-eqb, ne_eqb}
use Rattle.model.proofs.by_number.paged_bytes.Goals as goal

pub returns-then-w-eq-WIDE : goal.returns-then-w-eq-WIDE
returns-then-w-eq-WIDE c = simp (eq-eqb _ _ c.if-w-eq-WIDE.true)

pub returns-else-w-eq-WIDE : goal.returns-else-w-eq-WIDE
returns-else-w-eq-WIDE c = simp (ne_eqb _ _ c.if-w-eq-WIDE.false)

use Rattle.std.proofs.Common.{ℕ, ◌<◌, ◌^◌, refl, sym, ◌∙◌, arith, eq-eqb, ne_eqb, rules}
use Rattle.std.proofs.Math.Path.{subst⁻¹}
use Rattle.model.specs.Shape.{wide}
use Rattle.model.proofs.Sizes.{per_page_bound}
use Rattle.model.proofs.Tables.{printed}
use Rattle.model.proofs.items_in_page.Goals as goal

-- the test is `refl`: the table as it is printed is computed to be the rule's values
pub returns-then-BYTES-eq-WIDE : goal.returns-then-BYTES-eq-WIDE
returns-then-BYTES-eq-WIDE g c = simp (eq-eqb _ _ (sym c.BYTES.ensures ∙ c.if-BYTES-eq-WIDE.true)) (printed wide.per_page wide.classes c.args.c (search rules) refl)

pub returns-else-BYTES-eq-WIDE : goal.returns-else-BYTES-eq-WIDE
returns-else-BYTES-eq-WIDE g c = simp (ne_eqb _ _ (λ e. c.if-BYTES-eq-WIDE.false (c.BYTES.ensures ∙ e)))

pub overflow_cast-result : goal.overflow_cast-result
overflow_cast-result g c = record { fits = subst⁻¹ (λ (n : ℕ). n < 2 ^ 64) (returns-then-BYTES-eq-WIDE g c) (omega (arith, per_page_bound g.met.W.Width.width c.args.c)) }

use Rattle.std.proofs.Common.{◌≡◌, ◌<◌, sym, ◌∙◌, arith, eq-eqb, eqb-true, le-leb}
use Rattle.model.specs.Parts.{free_flags, flags_in, held_header}
use Rattle.words.proofs.YesNo.{yes_no}
use Rattle.marking.specs.Uses.{Right}
use Rattle.marking.proofs.Rights.{near_right, right_near, unknown_right}
use Rattle.marking.proofs.pages.is_right.Goals as goal
use Rattle.marking.proofs.pages.is_right.Goals.{then-flags_in-le-IDLE, else-flags_in-le-IDLE}

pub returns-then-x-held_header : goal.returns-then-x-held_header
returns-then-x-held_header c = ((λ y f. right f), (λ r. c.if-x-held_header.true))
  where
    right : Right c.args.c c.args.x
    right = elim c.if-flags_in-le-IDLE.branch [ then-flags_in-le-IDLE u ↦ (λ f. absurd (omega (arith, c.flags_in.ensures, u.if-flags_in-le-IDLE.true, f))) | else-flags_in-le-IDLE u ↦ unknown_right _ _ (eqb-true _ _ (sym u.value-is ∙ c.if-x-held_header.true) ∙ u.held_header.ensures) ]

pub returns-else-x-held_header : goal.returns-else-x-held_header
returns-else-x-held_header c = (
  (λ y f. near_right _ _ _ (omega (arith, c.requires)) (omega (arith, c.wrapping_sub_usize.type_inv)) (rw c.least_header.ensures at c.wrapping_sub_usize.ensures.value) (c.same_class.ensures.0 y)),
  (λ r. c.same_class.ensures.1 (right_near _ _ _ (omega (arith, c.requires)) (omega (arith, c.wrapping_sub_usize.type_inv)) (rw c.least_header.ensures at c.wrapping_sub_usize.ensures.value) other.1 (r other.0))),
)
  where
    other : (free_flags < flags_in c.args.x) × (c.args.x ≡ held_header c.args.c 0 → ⊥)
    other = elim c.if-flags_in-le-IDLE.branch [ then-flags_in-le-IDLE u ↦ absurd (yes_no (sym (le-leb _ _ u.if-flags_in-le-IDLE.true) ∙ sym u.value-is ∙ c.if-x-held_header.false)) | else-flags_in-le-IDLE u ↦ (omega (arith, u.if-flags_in-le-IDLE.false, c.flags_in.ensures), (λ e. yes_no (sym (eq-eqb _ _ (e ∙ sym u.held_header.ensures)) ∙ sym u.value-is ∙ c.if-x-held_header.false))) ]

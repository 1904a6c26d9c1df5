use Rattle.std.proofs.Common.{refl, arith}
use Rattle.relinking.proofs.Leaves.{roomy_same}
use Rattle.relinking.proofs.LinkLaws.{laid_long, renewing_from, renewing_class, renewing_none, renewing_linked, renewing_length, renewing_done}
use Rattle.relinking.proofs.link_classes.Goals.{then-word-ne0, else-word-ne0}
use Rattle.relinking.proofs.link_classes.Goals as goal

pub loop-c-init : goal.loop-c-init
loop-c-init g c = (renewing_from c.requires.link_ready.0 (λ i. (c.type_inv.h i).fits) _ c.requires.link_ready.1, refl)

pub word-requires : goal.word-requires
word-requires g c = omega (arith, laid_long (renewing_class c.loop-c.invariant.0 _ c.classes-c-end.ensures c.loop-c-test.true).laid, c.head_at-head.ensures.1, c.requires.link_ready.0.width)

pub link_class-requires-clause-class_ready : goal.link_class-requires-clause-class_ready
link_class-requires-clause-class_ready g c = renewing_class c.loop-c.invariant.0 _ c.classes-c-end.ensures c.loop-c-test.true

pub link_class-requires-clause-roomy : goal.link_class-requires-clause-roomy
link_class-requires-clause-roomy g c = roomy_same g.W.Width.BYTES _ _ _ _ (renewing_length c.loop-c.invariant.0) c.loop-c.invariant.1 c.requires.roomy

pub loop-c-preserved : goal.loop-c-preserved
loop-c-preserved g c =
    elim c.if-word-ne0.branch [
      | then-word-ne0 w ↦ rw (w.h-is, w.table-is) (renewing_linked c.loop-c.invariant.0 _ c.classes-c-end.ensures c.loop-c-test.true w.link_class.ensures, omega (arith, w.link_class.auto, c.loop-c.invariant.1))
      | else-word-ne0 w ↦ rw (w.h-is, w.table-is) (renewing_none c.loop-c.invariant.0 _ c.classes-c-end.ensures c.loop-c-test.true _ _ c.head_at-head.ensures.0 c.word.ensures w.if-word-ne0.false, c.loop-c.invariant.1)
    ]

pub returns : goal.returns
returns g c = renewing_done c.loop-c.invariant.0 _ c.classes-c-end.ensures c.loop-c-test.false

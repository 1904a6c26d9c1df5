use Rattle.std.proofs.Common.{sym, ◌∙◌, arith}
use Rattle.marking.proofs.Rights.{right_again, right_no, right_done}
use Rattle.words.proofs.YesNo.{yes_no}
use Rattle.marking.proofs.pages.are_right.Goals as goal

pub returns-then-not-is_right : goal.returns-then-not-is_right
returns-then-not-is_right g c = right_no c.requires _ _ _ _ c.first_item_at-q.ensures c.word.ensures c.class_in-c.ensures.0 c.items_in_page-end.ensures c.loop.invariant (omega (arith, c.loop-test.true)) _ c.word-in-loop.ensures (λ r. yes_no (sym (c.is_right.ensures.1 r) ∙ c.if-not-is_right.true))

pub loop-preserved : goal.loop-preserved
loop-preserved g c = right_again c.loop.invariant _ (omega (arith, c.loop-test.true)) _ c.word-in-loop.ensures (c.is_right.ensures.0 c.if-not-is_right.false)

pub returns : goal.returns
returns g c = right_done c.requires _ _ _ _ c.first_item_at-q.ensures c.word.ensures c.class_in-c.ensures.0 c.items_in_page-end.ensures c.loop.invariant (omega (arith, c.loop-test.false))

use Rattle.std.proofs.Common.{rules, refl, arith}
use Rattle.pages.proofs.PageLinks.{link_start, link_one, link_step, link_turn, link_done}
use Rattle.pages.proofs.link_items.Goals as goal

pub loop-left-init : goal.loop-left-init
loop-left-init g c = link_start c.args.h.now c.requires _ _ c.item_size-size.ensures refl (λ i. search rules) _ _ _ _ _ (omega (arith, c.free_header.ensures, c.free_mark.ensures)) refl c.offset_of.ensures c.free_header-header.ensures (rw c.free_mark-2.ensures at c.put_word.ensures)

pub overflow_sub-header : goal.overflow_sub-header
overflow_sub-header g c = link_step c.loop-left.invariant c.loop-left-test.true

pub overflow_sub-left-in-loop-left : goal.overflow_sub-left-in-loop-left
overflow_sub-left-in-loop-left g c = link_one c.loop-left.invariant c.loop-left-test.true

pub loop-left-preserved : goal.loop-left-preserved
loop-left-preserved g c = link_turn c.loop-left.invariant c.loop-left-test.true _ c.put_word-in-loop-left.ensures

pub returns : goal.returns
returns g c = link_done c.loop-left.invariant c.loop-left-test.false _ _ (rw c.free_mark-2.ensures at c.put_word.ensures) (rw c.requires.all refl)

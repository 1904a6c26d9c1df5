use Rattle.std.proofs.Common.{◌+◌, ◌<◌, ◌≤◌, arith}
use Rattle.model.specs.Shape.{shape, least_free}
use Rattle.marking.proofs.PageLaws.{page_tiny, page_misfit, page_fits, page_told}
use Rattle.marking.proofs.pages.mark_page.Goals as goal

pub returns-then-s-least_free : goal.returns-then-s-least_free
returns-then-s-least_free g c = page_tiny c.requires (omega (arith, c.least_free.ensures, c.if-s-least_free.true)) _

pub returns-then-least_free-wrapping_sub_usize : goal.returns-then-least_free-wrapping_sub_usize
returns-then-least_free-wrapping_sub_usize g c = page_misfit c.requires _ _ _ _ c.first_item_at-first.ensures c.word.ensures c.class_in-c.ensures.0 c.page_need-need.ensures _ c.wrapping_sub_usize.ensures.value (omega (arith, c.wrapping_sub_usize.type_inv)) (omega (arith, c.least_free-2.ensures, c.if-least_free-wrapping_sub_usize.true)) _

pub returns : goal.returns
returns g c =
    let fits : (c.page_need-need.result ≤ c.args.s) × (c.args.s < c.page_need-need.result + least_free (shape g.W.Width.BYTES)) = page_fits c.requires _ _ _ _ c.first_item_at-first.ensures c.word.ensures c.class_in-c.ensures.0 c.page_need-need.ensures _ c.wrapping_sub_usize.ensures.value (omega (arith, c.wrapping_sub_usize.type_inv)) (omega (arith, c.least_free-2.ensures, c.if-least_free-wrapping_sub_usize.false)) in
    page_told c.requires _ _ _ _ c.first_item_at-first.ensures c.word.ensures c.class_in-c.ensures.0 c.page_need-need.ensures _ _ c.items_in_page-items.ensures c.item_size.ensures fits.0 _ _ c.offset_of.ensures c.offset_bit-i.ensures _ _ (rw c.BYTES.ensures at c.mark_items-t.ensures) fits.1 _ c.judge.ensures

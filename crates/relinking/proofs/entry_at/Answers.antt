use Rattle.std.proofs.Common.{sym, ◌∙◌, arith}
use Rattle.relinking.proofs.GatherLaws.{at_page, at_room, at_small, at_held, told_none, told_other, told_page}
use Rattle.relinking.proofs.entry_at.Goals as goal

pub returns-then-kind_in-ne-PAGE : goal.returns-then-kind_in-ne-PAGE
returns-then-kind_in-ne-PAGE g c = told_none c.requires _ (λ z. c.if-kind_in-ne-PAGE.true (c.kind_in.ensures ∙ z))

pub word-requires : goal.word-requires
word-requires g c = omega (arith, at_room c.requires (sym c.kind_in.ensures ∙ c.if-kind_in-ne-PAGE.false), c.first_item_at-first.ensures, c.requires.width)

pub returns-then-class_in-c : goal.returns-then-class_in-c
returns-then-class_in-c g c = told_other c.requires _ _ _ _ c.first_item_at-first.ensures c.word.ensures c.class_in.ensures.0 c.if-class_in-c.true

pub page_at-page-requires : goal.page_at-page-requires
page_at-page-requires g c = at_page c.requires (sym c.kind_in.ensures ∙ c.if-kind_in-ne-PAGE.false)

pub entry_of-requires : goal.entry_of-requires
entry_of-requires g c = (at_small c.requires, at_held c.requires (sym c.kind_in.ensures ∙ c.if-kind_in-ne-PAGE.false) _ c.page_at-page.ensures)

pub returns : goal.returns
returns g c = told_page c.requires _ (sym c.kind_in.ensures ∙ c.if-kind_in-ne-PAGE.false) _ _ _ c.first_item_at-first.ensures c.word.ensures c.class_in.ensures.0 c.if-class_in-c.false _ c.page_at-page.ensures _ c.entry_of.ensures

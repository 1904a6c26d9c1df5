use Rattle.std.proofs.Common.{◌-◌, arith, refl, sym, ◌∙◌}
use Rattle.model.specs.Shape.{shape}
use Rattle.find.proofs.FindLaws.{page_low, page_uneven, page_over, page_idle, page_held}
use Rattle.find.proofs.in_page.Goals as goal

pub address_of-first-requires : goal.address_of-first-requires
address_of-first-requires g c = omega (arith, c.requires.block.width, c.requires.block.from, c.requires.block.below)

pub returns-then-a-first : goal.returns-then-a-first
returns-then-a-first g c = λ L h. page_low c.requires L h (omega (arith, c.address_of-first.ensures))

pub returns-then-d-size-ne0 : goal.returns-then-d-size-ne0
returns-then-d-size-ne0 g c = λ L h. page_uneven c.requires L h _ _ _ ((shape g.W.Width.BYTES).per_page c.class_in-class.result) _ (rw c.first_item_at-item.ensures at c.word.ensures) c.class_in-class.ensures.0 c.item_size-size.ensures refl (omega (arith, c.address_of-first.ensures)) (omega (arith, c.address_of-first.ensures)) c.if-d-size-ne0.true

pub returns-then-items_in_page-d : goal.returns-then-items_in_page-d
returns-then-items_in_page-d g c = λ L h. page_over c.requires L h _ _ _ _ (c.args.a.0 - c.address_of-first.result.0) (rw c.first_item_at-item.ensures at c.word.ensures) c.class_in-class.ensures.0 c.item_size-size.ensures c.items_in_page.ensures (omega (arith, c.address_of-first.ensures)) (omega (arith, c.address_of-first.ensures)) (omega arith)

pub returns-then-flags_in-ne-HELD : goal.returns-then-flags_in-ne-HELD
returns-then-flags_in-ne-HELD g c = λ L h. page_idle c.requires L h _ _ _ _ (c.args.a.0 - c.address_of-first.result.0) (rw c.first_item_at-item.ensures at c.word.ensures) c.class_in-class.ensures.0 c.item_size-size.ensures c.items_in_page.ensures (omega (arith, c.address_of-first.ensures)) (omega (arith, c.address_of-first.ensures)) (omega arith) (omega arith) _ _ c.position_of-at.ensures c.word-header.ensures (λ z. c.if-flags_in-ne-HELD.true (c.flags_in.ensures ∙ z))

pub returns : goal.returns
returns g c = λ L h. page_held c.requires L h _ _ _ _ (c.args.a.0 - c.address_of-first.result.0) (rw c.first_item_at-item.ensures at c.word.ensures) c.class_in-class.ensures.0 c.item_size-size.ensures c.items_in_page.ensures (omega (arith, c.address_of-first.ensures)) (omega (arith, c.address_of-first.ensures)) (omega arith) (omega arith) _ _ c.position_of-at.ensures c.word-header.ensures (sym c.flags_in.ensures ∙ c.if-flags_in-ne-HELD.false) _ c.asked_in.ensures

use Rattle.model.proofs.Sizes.{most_bound, page_least}
use Rattle.std.proofs.Common.{rules, refl, arith}
use Rattle.model.specs.Parts.{page_kind}
use Rattle.placing.proofs.Taking.{gap_room, need_part}
use Rattle.pages.proofs.PageMaking.{page_fits, page_middle, page_drawn}
use Rattle.pages.proofs.make.Goals as goal

pub first_item_at-first-requires : goal.first_item_at-first-requires
first_item_at-first-requires g c = omega (arith, c.requires.no_item.width, page_fits c.requires.no_item c.requires.spotted.is)

pub offset_of-requires : goal.offset_of-requires
offset_of-requires g c = omega (arith, c.requires.no_item.width, page_fits c.requires.no_item c.requires.spotted.is)

pub put_word-requires : goal.put_word-requires
put_word-requires g c = omega (arith, c.requires.no_item.width, c.head_at.ensures, c.requires.no_item.class, page_fits c.requires.no_item c.requires.spotted.is)

pub read-g-requires : goal.read-g-requires
read-g-requires g c = gap_room c.requires.no_item.width (page_middle c.requires.no_item c.requires.spotted.is _ _ _ c.head_at.ensures.0 (rw c.first_item_at-first.ensures at c.offset_of.ensures) c.put_word.ensures)

pub put_low-requires : goal.put_low-requires
put_low-requires g c = need_part c.requires.no_item.width (page_middle c.requires.no_item c.requires.spotted.is _ _ _ c.head_at.ensures.0 (rw c.first_item_at-first.ensures at c.offset_of.ensures) c.put_word.ensures) c.read-g.result c.read-g.ensures _ c.taken-u.result page_kind _ (rw c.page_need.ensures c.requires.spotted.is.split.large) c.taken-u.ensures refl (omega (arith, c.requires.no_item.width, most_bound c.requires.no_item.width, c.put_word.auto.b, c.requires.no_item.short)) (rw c.page_need.ensures (omega (arith, page_least c.requires.no_item.width c.args.c))) (omega arith)

pub link_items-requires : goal.link_items-requires
link_items-requires g c = record { width = c.requires.no_item.width; class = c.requires.no_item.class; all = c.requires.n_value; low = omega (arith, c.requires.no_item.width, page_fits c.requires.no_item c.requires.spotted.is); inside = omega (arith, c.requires.no_item.width, page_fits c.requires.no_item c.requires.spotted.is, c.put_word.auto.b, c.put_low.auto.h); short = omega (arith, c.requires.no_item.width, page_fits c.requires.no_item c.requires.spotted.is, c.put_word.auto.b, c.put_low.auto.h) }

pub put_high-requires : goal.put_high-requires
put_high-requires g c = need_part c.requires.no_item.width (page_middle c.requires.no_item c.requires.spotted.is _ _ _ c.head_at.ensures.0 (rw c.first_item_at-first.ensures at c.offset_of.ensures) c.put_word.ensures) c.read-g.result c.read-g.ensures _ c.taken-u.result page_kind _ (rw c.page_need.ensures c.requires.spotted.is.split.large) c.taken-u.ensures (omega (arith, c.requires.no_item.width, most_bound c.requires.no_item.width, c.put_low.auto.h, c.link_items.auto.h)) (omega (arith, c.requires.no_item.width, most_bound c.requires.no_item.width, c.put_word.auto.b, c.requires.no_item.short)) (rw c.page_need.ensures (omega (arith, page_least c.requires.no_item.width c.args.c))) (omega arith)

pub returns : goal.returns
returns g c = record { draws = λ L t x. page_drawn c.requires.no_item x _ _ _ c.head_at.ensures.0 (rw c.first_item_at-first.ensures at c.offset_of.ensures) c.put_word.ensures (λ i. search rules) c.read-g.result c.read-g.ensures c.taken-u.result _ c.page_need.ensures c.taken-u.ensures _ _ _ c.put_low.ensures (rw c.first_item_at-first.ensures at c.link_items.ensures) c.put_high.ensures }

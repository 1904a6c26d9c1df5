use Rattle.std.proofs.Common.{length, refl, ap, ◌∙◌, arith, rules}
use Rattle.relinking.proofs.PushLaws.{on_class, on_room, carrying_start, carrying_room, carrying_idle, carrying_held, carrying_done, carrying_length}
use Rattle.relinking.proofs.LinkLaws.{laid_long}
use Rattle.words.proofs.WordLaws.{length_put}
use Rattle.model.proofs.Sizes.{most_bound, page_product}
use Rattle.relinking.proofs.push_page.Goals as goal

pub item_size-size-requires : goal.item_size-size-requires
item_size-size-requires g c = on_class c.requires

pub head_at-at-requires : goal.head_at-at-requires
head_at-at-requires g c = on_class c.requires

pub first_item_at-first-requires : goal.first_item_at-first-requires
first_item_at-first-requires g c = omega (arith, on_room c.requires, c.requires.short, most_bound c.requires.width, c.requires.width)

pub word-requires : goal.word-requires
word-requires g c = omega (arith, c.requires.width, c.head_at-at.ensures, laid_long c.requires.laid)

pub items_in_page-requires : goal.items_in_page-requires
items_in_page-requires g c = on_class c.requires

pub overflow_mul-q : goal.overflow_mul-q
overflow_mul-q g c = omega (arith, page_product c.requires.width _ _ _ (on_class c.requires) c.items_in_page.ensures c.item_size-size.ensures)

pub overflow_add-q : goal.overflow_add-q
overflow_add-q g c = omega (arith, page_product c.requires.width _ _ _ (on_class c.requires) c.items_in_page.ensures c.item_size-size.ensures, on_room c.requires, c.requires.short, most_bound c.requires.width, c.requires.width, c.first_item_at-first.ensures)

pub loop-q-init : goal.loop-q-init
loop-q-init g c = carrying_start c.requires (λ i. search rules) _ _ _ _ _ _ c.item_size-size.ensures c.items_in_page.ensures c.head_at-at.ensures.0 c.first_item_at-first.ensures c.word.ensures refl

pub overflow_sub-q : goal.overflow_sub-q
overflow_sub-q g c = omega (arith, carrying_room c.loop-q.invariant c.loop-q-test.true)

pub word-requires-in-loop-q : goal.word-requires-in-loop-q
word-requires-in-loop-q g c = omega (arith, carrying_room c.loop-q.invariant c.loop-q-test.true, c.requires.width)

pub free_header-requires : goal.free_header-requires
free_header-requires g c = omega (arith, carrying_room c.loop-q.invariant c.loop-q-test.true, most_bound c.requires.width, c.requires.width)

pub put_word-requires : goal.put_word-requires
put_word-requires g c = omega (arith, carrying_room c.loop-q.invariant c.loop-q-test.true, c.requires.width)

pub offset_of-head-requires : goal.offset_of-head-requires
offset_of-head-requires g c = omega (arith, carrying_room c.loop-q.invariant c.loop-q-test.true, c.requires.width)

pub loop-q-smaller-then-used_in-eq0 : goal.loop-q-smaller-then-used_in-eq0
loop-q-smaller-then-used_in-eq0 g c = omega (arith, carrying_room c.loop-q.invariant c.loop-q-test.true)

pub loop-q-preserved-then-used_in-eq0 : goal.loop-q-preserved-then-used_in-eq0
loop-q-preserved-then-used_in-eq0 g c = carrying_idle c.loop-q.invariant c.loop-q-test.true _ _ _ _ c.word-in-loop-q.ensures c.used_in.ensures c.if-used_in-eq0.true c.offset_of-head.ensures c.free_header.ensures _ c.put_word.ensures

pub loop-q-smaller : goal.loop-q-smaller
loop-q-smaller g c = omega (arith, carrying_room c.loop-q.invariant c.loop-q-test.true)

pub loop-q-preserved : goal.loop-q-preserved
loop-q-preserved g c = carrying_held c.loop-q.invariant c.loop-q-test.true _ _ c.word-in-loop-q.ensures c.used_in.ensures c.if-used_in-eq0.false

pub put_word-requires-2 : goal.put_word-requires-2
put_word-requires-2 g c = omega (arith, c.requires.width, c.head_at-at.ensures, laid_long c.requires.laid, carrying_length c.loop-q.invariant)

pub shape_of-h : goal.shape_of-h
shape_of-h g c = ap length c.put_word-2.ensures ∙ length_put _ _ _ _ ∙ carrying_length c.loop-q.invariant

pub returns : goal.returns
returns g c = carrying_done c.loop-q.invariant _ c.first_item_at-first.ensures c.loop-q-test.false _ c.put_word-2.ensures

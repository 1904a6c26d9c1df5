use Rattle.std.proofs.Common.{ℕ, ap, ◌∙◌, arith, rules}
use Rattle.model.proofs.Sizes.{most_bound}
use Rattle.words.specs.Word.{word_at}
use Rattle.items.proofs.ItemTaking.{item_long, item_there, item_taken}
use Rattle.items.proofs.take.Goals as goal

pub word-requires : goal.word-requires
word-requires g c = omega (arith, item_long c.requires, c.requires.class)

pub item_at-q-requires : goal.item_at-q-requires
item_at-q-requires g c = omega (arith, item_there c.requires c.word.result (c.word.ensures ∙ ap (λ (y : ℕ). word_at g.W.Width.BYTES c.args.h.now y) c.head_at-head.ensures.0), c.requires.short, most_bound c.requires.width)

pub word-requires-2 : goal.word-requires-2
word-requires-2 g c = omega (arith, item_there c.requires c.word.result (c.word.ensures ∙ ap (λ (y : ℕ). word_at g.W.Width.BYTES c.args.h.now y) c.head_at-head.ensures.0), c.requires.short, most_bound c.requires.width)

pub put_word-requires : goal.put_word-requires
put_word-requires g c = omega (arith, item_long c.requires, c.requires.class)

pub put_word-requires-2 : goal.put_word-requires-2
put_word-requires-2 g c = omega (arith, item_there c.requires c.word.result (c.word.ensures ∙ ap (λ (y : ℕ). word_at g.W.Width.BYTES c.args.h.now y) c.head_at-head.ensures.0), c.put_word.auto.b)

pub address_of-requires : goal.address_of-requires
address_of-requires g c = omega (arith, item_there c.requires c.word.result (c.word.ensures ∙ ap (λ (y : ℕ). word_at g.W.Width.BYTES c.args.h.now y) c.head_at-head.ensures.0), c.requires.short, most_bound c.requires.width)

pub returns : goal.returns
returns g c = item_taken c.requires c.word.result (c.word.ensures ∙ ap (λ (y : ℕ). word_at g.W.Width.BYTES c.args.h.now y) c.head_at-head.ensures.0) _ _ _ _ _ _ _ c.head_at-head.ensures.0 c.item_at-q.ensures c.word-2.ensures c.next_in-next.ensures c.put_word.ensures (rw c.held_header.ensures at c.put_word-2.ensures) c.address_of.ensures (λ i. search rules)

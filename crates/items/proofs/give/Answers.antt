use Rattle.std.proofs.Common.{arith, rules}
use Rattle.items.proofs.GiveLaws.{give_numbers, give_at, give_first}
use Rattle.model.proofs.Sizes.{most_bound}
use Rattle.items.proofs.give.Goals as goal

pub head_at-head-requires : goal.head_at-head-requires
head_at-head-requires g c = (give_numbers _ _ _ c.requires).class

pub offset_of-requires : goal.offset_of-requires
offset_of-requires g c = omega (arith, c.requires.width, give_numbers _ _ _ c.requires)

pub word-requires : goal.word-requires
word-requires g c = omega (arith, most_bound c.requires.width, give_numbers _ _ _ c.requires)

pub put_word-requires : goal.put_word-requires
put_word-requires g c = omega (arith, most_bound c.requires.width, give_numbers _ _ _ c.requires)

pub free_header-requires : goal.free_header-requires
free_header-requires g c = omega (arith, most_bound c.requires.width, (give_numbers _ _ _ c.requires).class, give_first _ _ _ c.requires c.head_at-head.result.0 c.word.result c.head_at-head.ensures.0 c.word.ensures)

pub put_word-requires-2 : goal.put_word-requires-2
put_word-requires-2 g c = omega (arith, most_bound c.requires.width, give_numbers _ _ _ c.requires)

pub returns : goal.returns
returns g c = give_at _ _ _ c.requires (λ i. search rules) _ _ c.head_at-head.ensures.0 c.word.ensures _ _ (rw c.offset_of.ensures at c.put_word.ensures) (rw c.free_header.ensures at c.put_word-2.ensures)

use Rattle.std.proofs.Common.{refl, arith}
use Rattle.reading.proofs.BlockLaws.{walk_inside, read_free, read_variable, read_page}
use Rattle.reading.proofs.stepping.block_at.Goals as goal

pub word-t-requires : goal.word-t-requires
word-t-requires g c = omega (arith, c.requires.0.width, walk_inside c.requires.0 _ refl c.requires.1 _ refl)

pub word-requires : goal.word-requires
word-requires g c = omega (arith, c.requires.0.width, walk_inside c.requires.0 _ c.word-t.ensures c.requires.1 _ refl)

pub previous_at-requires : goal.previous_at-requires
previous_at-requires g c = omega (arith, c.requires.0.width, walk_inside c.requires.0 _ c.word-t.ensures c.requires.1 _ c.size_in-size.ensures)

pub word-requires-in-0 : goal.word-requires-in-0
word-requires-in-0 g c = omega (arith, c.requires.0.width, walk_inside c.requires.0 _ c.word-t.ensures c.requires.1 _ c.size_in-size.ensures)

pub word-requires-in_default : goal.word-requires-in_default
word-requires-in_default g c = omega (arith, c.requires.0.width, walk_inside c.requires.0 _ c.word-t.ensures c.requires.1 _ refl)

pub returns-in-0 : goal.returns-in-0
returns-in-0 g c = read_free c.requires.0 _ c.word-t.ensures c.requires.1 _ c.size_in-size.ensures (omega arith) _ _ (rw c.next_at.ensures at c.word.ensures) (rw c.previous_at.ensures at c.word-in-0.ensures)

pub returns-in-2 : goal.returns-in-2
returns-in-2 g c = read_variable c.requires.0 _ c.word-t.ensures c.requires.1 _ c.size_in-size.ensures (omega arith)

pub returns-in_default : goal.returns-in_default
returns-in_default g c = read_page c.requires.0 _ c.word-t.ensures c.requires.1 _ c.size_in-size.ensures (λ z. omega arith) (λ z. omega arith) _ _ (rw c.first_item_at.ensures at c.word-in_default.ensures) c.class_in.ensures.0

use Rattle.std.proofs.Common.{arith}
use Rattle.releasing.proofs.ReleaseLaws.{right_touching, right_apart}
use Rattle.releasing.proofs.right_edge.Goals as goal

pub word-requires : goal.word-requires
word-requires g c = omega (arith, c.requires.block c.if-next-q.true)

pub overflow_add-result : goal.overflow_add-result
overflow_add-result g c = omega (arith, c.requires.block c.if-next-q.true, c.word.ensures)

pub next_at-requires : goal.next_at-requires
next_at-requires g c = omega (arith, c.requires.block c.if-next-q.true)

pub word-requires-then-next-q : goal.word-requires-then-next-q
word-requires-then-next-q g c = omega (arith, c.requires.block c.if-next-q.true)

pub returns-then-next-q : goal.returns-then-next-q
returns-then-next-q g c = right_touching _ _ _ _ c.if-next-q.true _ _ _ c.word.ensures c.next_at.ensures c.word-then-next-q.ensures

pub returns : goal.returns
returns g c = right_apart g.W.Width.BYTES _ _ _ c.if-next-q.false

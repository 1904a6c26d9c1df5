use Rattle.std.proofs.Common.{◌+◌, ◌-◌, arith}
use Rattle.reading.proofs.ReadingLaws.{held_start, held_inside, held_again, held_bound, held_done}
use Rattle.reading.proofs.counting.count_held.Goals as goal

pub loop-init : goal.loop-init
loop-init g c = held_start g.met.W.Width.width _ _ _ _ _ _ (omega arith) c.requires.1 c.requires.2 c.item_size-size.ensures

pub word-requires : goal.word-requires
word-requires g c = (held_inside c.loop.invariant (c.args.n - (c.loop.counter + 1)) (omega arith)).0

pub overflow_add-held : goal.overflow_add-held
overflow_add-held g c = omega (arith, held_bound c.loop.invariant)

pub overflow_add-q : goal.overflow_add-q
overflow_add-q g c = omega (arith, held_inside c.loop.invariant (c.args.n - (c.loop.counter + 1)) (omega arith))

pub loop-preserved : goal.loop-preserved
loop-preserved g c = held_again c.loop.invariant _ (omega arith) _ _ c.word.ensures c.used_in.ensures

pub returns : goal.returns
returns g c = held_done c.loop.invariant (omega arith)

use Rattle.std.proofs.Common.{refl, arith}
use Rattle.reading.proofs.SteppingLaws.{toward_start, start_none, start_told, toward_inside, toward_on}
use Rattle.reading.proofs.heap.SoundHeap.starts.Goals as goal

pub returns-then-end_of-at : goal.returns-then-end_of-at
returns-then-end_of-at g c = start_none g.met.W.Width.width _ _ (rw (← c.self.view_is) (omega arith))

pub loop-p-init : goal.loop-p-init
loop-p-init g c = (toward_start g.met.W.Width.width _ _ _ c.start-p.ensures c.self.invariant, omega arith)

pub word-t-requires : goal.word-t-requires
word-t-requires g c = omega (arith, toward_inside c.loop-p.invariant.0 _ refl (omega arith))

pub overflow_add-p : goal.overflow_add-p
overflow_add-p g c = omega (arith, toward_inside c.loop-p.invariant.0 _ c.word-t.ensures (omega arith))

pub loop-p-smaller : goal.loop-p-smaller
loop-p-smaller g c = omega (arith, toward_inside c.loop-p.invariant.0 _ c.word-t.ensures (omega arith))

pub loop-p-preserved : goal.loop-p-preserved
loop-p-preserved g c = (toward_on c.loop-p.invariant.0 _ c.word-t.ensures (omega arith) (omega arith) _ c.size_in.ensures, omega arith)

pub returns : goal.returns
returns g c = rw (← c.self.view_is) (start_told c.loop-p.invariant.0 (omega arith) c.loop-p.invariant.1)

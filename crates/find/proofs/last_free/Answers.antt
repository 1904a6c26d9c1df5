use Rattle.std.proofs.Common.{inl, inr, arith}
use Rattle.model.specs.Shape.{shape}
use Rattle.model.proofs.blocks.FreeWalk.{here_room}
use Rattle.find.proofs.NearestLaws.{along_start, nearest, along_room, along_next, along_less}
use Rattle.find.proofs.last_free.Goals as goal

pub word-requires : goal.word-requires
word-requires g c = omega (arith, here_room (shape g.W.Width.BYTES) c.args.h.now c.requires.layout c.requires.here)

pub loop-next-init : goal.loop-next-init
loop-next-init g c = λ L h. along_start g.met.W.Width.width h _ _ _ c.first_free_at.ensures c.word.ensures

pub returns-then-a-next : goal.returns-then-a-next
returns-then-a-next g c = λ L h. nearest g.met.W.Width.width h (c.loop-next.invariant L h) (inr c.if-a-next.true)

pub next_at-requires : goal.next_at-requires
next_at-requires g c = omega (arith, along_room g.met.W.Width.width c.requires.here (c.loop-next.invariant c.requires.layout c.requires.here) c.loop-next-test.true)

pub word-requires-in-loop-next : goal.word-requires-in-loop-next
word-requires-in-loop-next g c = omega (arith, c.next_at.ensures, along_room g.met.W.Width.width c.requires.here (c.loop-next.invariant c.requires.layout c.requires.here) c.loop-next-test.true)

pub loop-next-smaller : goal.loop-next-smaller
loop-next-smaller g c = along_less g.met.W.Width.width c.requires.here (c.loop-next.invariant c.requires.layout c.requires.here) c.loop-next-test.true _ _ c.next_at.ensures c.word-in-loop-next.ensures

pub loop-next-preserved : goal.loop-next-preserved
loop-next-preserved g c = λ L h. along_next g.met.W.Width.width h (c.loop-next.invariant L h) c.loop-next-test.true _ _ c.next_at.ensures c.word-in-loop-next.ensures (omega arith)

pub returns : goal.returns
returns g c = λ L h. nearest g.met.W.Width.width h (c.loop-next.invariant L h) (inl c.loop-next-test.false)

use Rattle.std.proofs.Common.{arith}
use Rattle.model.specs.Shape.{shape}
use Rattle.model.proofs.blocks.FreeWalk.{here_room}
use Rattle.fitting.proofs.FitLaws.{looks, none_fits, room_there, fits, goes_on, less_left}
use Rattle.fitting.proofs.find_fit.Goals as goal

pub word-requires : goal.word-requires
word-requires g c = omega (arith, here_room (shape g.W.Width.BYTES) c.args.h.now c.requires.layout c.requires.here)

pub loop-p-init : goal.loop-p-init
loop-p-init g c = looks _ (rw c.first_free_at.ensures at c.word.ensures)

pub word-s-requires : goal.word-s-requires
word-s-requires g c = omega (arith, room_there c.loop-p.p c.loop-p.invariant c.loop-p-test.true c.requires)

pub returns-then-need-s : goal.returns-then-need-s
returns-then-need-s g c = fits c.loop-p.p c.loop-p.invariant c.loop-p-test.true (omega (arith, c.if-need-s.true, c.word-s.ensures))

pub next_at-requires : goal.next_at-requires
next_at-requires g c = omega (arith, room_there c.loop-p.p c.loop-p.invariant c.loop-p-test.true c.requires)

pub word-requires-in-loop-p : goal.word-requires-in-loop-p
word-requires-in-loop-p g c = omega (arith, room_there c.loop-p.p c.loop-p.invariant c.loop-p-test.true c.requires)

pub loop-p-smaller : goal.loop-p-smaller
loop-p-smaller g c = less_left c.loop-p.p c.loop-p.invariant c.loop-p-test.true (omega (arith, c.if-need-s.false, c.word-s.ensures)) _ (rw c.next_at.ensures at c.word-in-loop-p.ensures) g.met.W.Width.width c.requires

pub loop-p-preserved : goal.loop-p-preserved
loop-p-preserved g c = goes_on c.loop-p.p c.loop-p.invariant c.loop-p-test.true (omega (arith, c.if-need-s.false, c.word-s.ensures)) _ (rw c.next_at.ensures at c.word-in-loop-p.ensures)

pub returns : goal.returns
returns g c = none_fits _ c.loop-p.invariant c.loop-p-test.false

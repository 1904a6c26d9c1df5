use Rattle.std.proofs.Common.{arith, refl}
use Rattle.find.proofs.NearestLaws.{clear_room}
use Rattle.find.proofs.FindLaws.{found_before, found_behind, found_gap, look_start, look_inside, look_on, look_past}
use Rattle.find.proofs.find.Goals as goal

pub returns-then-a-start : goal.returns-then-a-start
returns-then-a-start g c = λ L h. found_before g.met.W.Width.width L _ (omega arith)

pub returns-then-end_of-a : goal.returns-then-end_of-a
returns-then-end_of-a g c = λ L h. found_behind g.met.W.Width.width _ L _ h (omega arith)

pub last_free-prev-requires : goal.last_free-prev-requires
last_free-prev-requires g c = c.requires

pub behind-begin-requires : goal.behind-begin-requires
behind-begin-requires g c = let n = c.last_free-prev.ensures c.requires.layout c.requires.here in
    (n.room, omega (arith, clear_room g.met.W.Width.width c.requires.here n.clear))

pub returns-then-a-begin : goal.returns-then-a-begin
returns-then-a-begin g c = λ L h. found_gap g.met.W.Width.width L h _ _ _ (c.last_free-prev.ensures L h) c.behind-begin.ensures (omega arith) (omega arith)

pub loop-next-init : goal.loop-next-init
loop-next-init g c = look_start g.met.W.Width.width _ _ _ _ c.requires c.last_free-prev.ensures c.behind-begin.ensures (omega arith) (omega arith)

pub word-t-requires : goal.word-t-requires
word-t-requires g c = omega (arith, look_inside c.loop-next.invariant _ refl)

pub overflow_add-next : goal.overflow_add-next
overflow_add-next g c = omega (arith, look_inside c.loop-next.invariant _ c.word-t.ensures)

pub in_block-requires : goal.in_block-requires
in_block-requires g c = look_on c.loop-next.invariant _ c.word-t.ensures _ c.touches.ensures (omega arith)

pub returns-then-a-next : goal.returns-then-a-next
returns-then-a-next g c = c.in_block.ensures

pub loop-next-smaller : goal.loop-next-smaller
loop-next-smaller g c = omega (arith, look_inside c.loop-next.invariant _ c.word-t.ensures)

pub loop-next-preserved : goal.loop-next-preserved
loop-next-preserved g c = look_past c.loop-next.invariant _ _ c.word-t.ensures c.size_in.ensures (omega arith)

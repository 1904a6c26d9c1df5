use Rattle.std.proofs.Common.{refl, ◌∙◌, arith, length-set}
use Rattle.relinking.proofs.GatherLaws.{gather_start, gather_done, gather_room, gather_sized, gather_none, gather_more}
use Rattle.model.proofs.Sizes.{most_bound}
use Rattle.relinking.proofs.gather.Goals as goal

pub loop-p-init : goal.loop-p-init
loop-p-init g c = (gather_start c.requires.ready _ _ _ c.start-p.ensures c.requires.roomy, refl, c.end_of-end.ensures)

pub word-t-requires : goal.word-t-requires
word-t-requires g c = omega (arith, gather_sized c.loop-p.invariant.0 (omega arith) _ refl, c.loop-p.invariant.0.heap.width)

pub shape_of-table : goal.shape_of-table
shape_of-table g c = c.loop-p.invariant.1

pub returns-clause-gathered : goal.returns-clause-gathered
returns-clause-gathered g c = gather_done c.loop-p.invariant.0 (omega arith)

pub overflow_add-next : goal.overflow_add-next
overflow_add-next g c = omega (arith, gather_sized c.loop-p.invariant.0 (omega arith) _ c.word-t.ensures, c.loop-p.invariant.0.heap.short, most_bound c.loop-p.invariant.0.heap.width, c.loop-p.invariant.0.heap.width)

pub bounds-table-m : goal.bounds-table-m
bounds-table-m g c = gather_room c.loop-p.invariant.0 (omega arith)

pub loop-p-smaller-in-Some : goal.loop-p-smaller-in-Some
loop-p-smaller-in-Some g c = omega (arith, gather_sized c.loop-p.invariant.0 (omega arith) _ c.word-t.ensures, c.loop-p.invariant.0.heap.width)

pub loop-p-preserved-in-Some : goal.loop-p-preserved-in-Some
loop-p-preserved-in-Some g c = (gather_more c.loop-p.invariant.0 (omega arith) _ c.word-t.ensures _ c.entry_at.ensures _ c.in-Some.is _ c.size_in.ensures, length-set c.loop-p.table c.loop-p.m _ ∙ c.loop-p.invariant.1, c.loop-p.invariant.2)

pub loop-p-smaller : goal.loop-p-smaller
loop-p-smaller g c = omega (arith, gather_sized c.loop-p.invariant.0 (omega arith) _ c.word-t.ensures, c.loop-p.invariant.0.heap.width)

pub loop-p-preserved : goal.loop-p-preserved
loop-p-preserved g c = (gather_none c.loop-p.invariant.0 (omega arith) _ c.word-t.ensures _ c.entry_at.ensures c.in_default.is _ c.size_in.ensures, c.loop-p.invariant.1, c.loop-p.invariant.2)

pub returns-clause-fits : goal.returns-clause-fits
returns-clause-fits g c = omega (arith, c.loop-p.invariant.0.fits, c.loop-p.invariant.1)

use Rattle.std.proofs.Common.{arith, refl}
use Rattle.model.specs.Reading.{rows_from, row, total}
use Rattle.reading.specs.Counting.{table_rows}
use Rattle.reading.proofs.IterLaws.{read_page_at, begins, turn_read, turn_end}
use Rattle.reading.proofs.ReadingLaws.{going_done}
use Rattle.reading.proofs.TableLaws.{tabled_room, tabled_on, tabled_off}
use Rattle.reading.proofs.heap.SoundHeap.tabulate.Goals as goal

pub loop-block-init : goal.loop-block-init
unfolding rows_from row total
loop-block-init g c = rw (c.into_iter-block-iterator.ensures.into_iter_gives, c.self.view_is) (begins (rows_from table_rows 0) c.blocks-block-items.ensures.0 c.blocks-block-items.ensures.1 g.met.W.Width.width (rw (← c.self.view_is) c.self.invariant) _ refl)

pub page_at-page-requires : goal.page_at-page-requires
page_at-page-requires g c = read_page_at (turn_read c.loop-block.invariant.0 c.in-Some.ensures.steps) _ c.in-Page.is

pub offset_bounds-rows-page : goal.offset_bounds-rows-page
offset_bounds-rows-page g c = omega (arith, tabled_room c.loop-block.invariant c.in-Some.ensures.steps _ c.in-Page.is _ c.page_at-page.ensures (omega arith))

pub bounds-rows-page : goal.bounds-rows-page
bounds-rows-page g c = omega (arith, tabled_room c.loop-block.invariant c.in-Some.ensures.steps _ c.in-Page.is _ c.page_at-page.ensures (omega arith))

pub with_page-requires : goal.with_page-requires
with_page-requires g c = (tabled_room c.loop-block.invariant c.in-Some.ensures.steps _ c.in-Page.is _ c.page_at-page.ensures (omega arith)).1

pub loop-block-preserved-in-Page : goal.loop-block-preserved-in-Page
loop-block-preserved-in-Page g c = tabled_on c.loop-block.invariant c.in-Some.ensures.steps _ c.in-Page.is _ c.page_at-page.ensures _ c.with_page.ensures

pub loop-block-preserved : goal.loop-block-preserved
loop-block-preserved g c = tabled_off c.loop-block.invariant c.in-Some.ensures.steps (λ d. c.in_default.not-Page d)

pub returns : goal.returns
returns g c = rw (← c.self.view_is) (going_done (rows_from table_rows 0) c.loop-block.invariant.1 (turn_end c.loop-block.invariant.0 c.in-None.ensures.steps))

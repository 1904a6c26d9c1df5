use Rattle.std.proofs.Common.{◌≡◌}
use Rattle.model.specs.Reading.{rows_from}
use Rattle.reading.specs.Counting.{table_rows, Going}
use Rattle.reading.proofs.heap.SoundHeap.tabulate.Given as goal

abbrev pub invariant-loop-block : goal.invariant-loop-block
invariant-loop-block g l = (l.block-iterator.h.now ≡ l.self-inside.bytes.now) × Going g.W.Width.BYTES (rows_from table_rows 0) l.self-inside.bytes.now l.block-iterator.at.0 l.rows

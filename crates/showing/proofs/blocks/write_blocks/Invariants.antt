use Rattle.std.proofs.Common.{◌≡◌}
use Rattle.showing.proofs.blocks.write_blocks.Given as goal

abbrev pub invariant-loop-block : goal.invariant-loop-block
invariant-loop-block g l = l.block-iterator.h.now ≡ l.heap-inside.bytes.now

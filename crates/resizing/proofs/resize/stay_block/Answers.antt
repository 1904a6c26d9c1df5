use Rattle.resizing.proofs.ResizeLaws.{block_there, too_small, reshaped_there, not_reshaped}
use Rattle.std.proofs.Common.{arith}
use Rattle.resizing.proofs.resize.stay_block.Goals as goal

pub returns-then-n-largest_item : goal.returns-then-n-largest_item
returns-then-n-largest_item g c = too_small c.requires.block_live_at (omega (arith, c.if-n-largest_item.true, c.largest_item.ensures))

pub reshape-requires : goal.reshape-requires
reshape-requires g c = record { block_live = block_there c.requires.block_live_at; large = record { above = omega (arith, c.if-n-largest_item.false, c.largest_item.ensures); most = c.requires.asked.most } }

pub returns-then-reshape : goal.returns-then-reshape
returns-then-reshape g c = reshaped_there c.requires.block_live_at c.reshape.ensures c.if-reshape.true

pub returns : goal.returns
returns g c = not_reshaped c.requires.block_live_at c.reshape.ensures c.if-reshape.false

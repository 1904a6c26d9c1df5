use Rattle.std.proofs.Common.{arith}
use Rattle.model.proofs.Sizes.{most_bound}
use Rattle.model.specs.Shape.{shape}
use Rattle.model.proofs.blocks.Spots.{spot_middle}
use Rattle.model.proofs.blocks.Taken.{block_in}
use Rattle.engine.proofs.Allocating.{spotted, block_none, block_taken}
use Rattle.engine.proofs.allocate.a_block.Goals as goal

pub returns-in_err-p : goal.returns-in_err-p
returns-in_err-p g c = rw c.from_residual.ensures (block_none c.requires.ready c.in_err-p.ensures)

pub take-requires-clause-spotted : goal.take-requires-clause-spotted
take-requires-clause-spotted g c = spotted c.requires.ready c.in_ok-p.ensures

pub address_of-requires : goal.address_of-requires
address_of-requires g c = omega (arith, block_in (shape g.W.Width.BYTES) (spot_middle (shape g.W.Width.BYTES) (spotted c.requires.ready c.in_ok-p.ensures).is), c.requires.ready.short, most_bound c.requires.ready.width)

pub returns : goal.returns
returns g c = block_taken c.requires.ready _ _ _ c.in_ok-p.ensures c.requires.needed c.take.ensures c.address_of.ensures

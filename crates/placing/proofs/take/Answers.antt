use Rattle.std.proofs.Common.{refl, arith, rules}
use Rattle.model.proofs.Sizes.{most_bound}
use Rattle.model.specs.Shape.{shape}
use Rattle.model.specs.Parts.{variable_kind}
use Rattle.model.proofs.blocks.Spots.{spot_middle}
use Rattle.model.proofs.blocks.Taken.{block_in}
use Rattle.placing.proofs.Taking.{gap_room, need_part}
use Rattle.placing.proofs.Placing.{variable_drawn}
use Rattle.placing.proofs.take.Goals as goal

pub read-g-requires : goal.read-g-requires
read-g-requires g c = gap_room c.requires.needed.width (spot_middle (shape g.W.Width.BYTES) c.requires.spotted.is)

pub taken-u-requires : goal.taken-u-requires
taken-u-requires g c = omega (arith, c.requires.spotted.is.split.large, block_in (shape g.W.Width.BYTES) (spot_middle (shape g.W.Width.BYTES) c.requires.spotted.is), c.requires.needed.short, most_bound c.requires.needed.width)

pub put_low-requires : goal.put_low-requires
put_low-requires g c = need_part c.requires.needed.width (spot_middle (shape g.W.Width.BYTES) c.requires.spotted.is) c.read-g.result c.read-g.ensures _ c.taken-u.result variable_kind _ c.requires.spotted.is.split.large c.taken-u.ensures refl (omega (arith, c.requires.needed.short, most_bound c.requires.needed.width)) (omega (arith, c.requires.needed.large)) (omega arith)

pub put_high-requires : goal.put_high-requires
put_high-requires g c = need_part c.requires.needed.width (spot_middle (shape g.W.Width.BYTES) c.requires.spotted.is) c.read-g.result c.read-g.ensures _ c.taken-u.result variable_kind _ c.requires.spotted.is.split.large c.taken-u.ensures (search rules) (omega (arith, c.requires.needed.short, most_bound c.requires.needed.width)) (omega (arith, c.requires.needed.large)) (omega arith)

pub returns : goal.returns
returns g c = record { draws = λ L t x. variable_drawn x c.read-g.result c.read-g.ensures c.taken-u.result c.taken-u.ensures c.requires.needed (λ i. search rules) _ _ c.put_low.ensures c.put_high.ensures }

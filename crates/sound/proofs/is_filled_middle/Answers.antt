use Rattle.sound.proofs.FillLaws.{halted_same, map_enough}
use Rattle.words.proofs.BitLaws.{zeros_clear}
use Rattle.marking.specs.Maps.{middle_map}
use Rattle.std.proofs.Common.{arith}
use Rattle.sound.proofs.is_filled_middle.Goals as goal

pub spread-requires : goal.spread-requires
spread-requires g c = (omega (arith, c.requires.1), zeros_clear middle_map)

pub fill-requires : goal.fill-requires
fill-requires g c = (halted_same c.spread.ensures c.requires.0, record { some = omega arith; few = omega arith })

pub is_filled_large-requires : goal.is_filled_large-requires
is_filled_large-requires g c = ((c.fill.ensures.is_beyond _ c.in-Err.is).0, omega arith, c.requires.2)

pub returns-else-map_end-longest : goal.returns-else-map_end-longest
returns-else-map_end-longest g c = absurd
    (map_enough _ c.args.h.now _ middle_map (omega arith) c.requires.2.1 (omega (arith, c.if-map_end-longest.false, c.longest.ensures, c.map_end.ensures))
    (c.fill.ensures.is_beyond _ c.in-Err.is).1)

use Rattle.sound.proofs.FillLaws.{halted_same, large_enough}
use Rattle.words.proofs.BitLaws.{zeros_clear}
use Rattle.marking.specs.Maps.{large_map}
use Rattle.std.proofs.Common.{arith}
use Rattle.sound.proofs.is_filled_large.Goals as goal

pub spread-requires : goal.spread-requires
spread-requires g c = (omega (arith, c.requires.1), zeros_clear large_map)

pub fill-requires : goal.fill-requires
fill-requires g c = (halted_same c.spread.ensures c.requires.0, record { some = omega arith; few = omega arith })

pub returns-in-Ok : goal.returns-in-Ok
returns-in-Ok g c = c.fill.ensures.is_told _ c.in-Ok.is

pub returns-in-Err : goal.returns-in-Err
returns-in-Err g c = absurd (large_enough c.requires.0.stood.room.sizes.width c.args.h.now _ (omega arith) c.requires.2.1 (c.fill.ensures.is_beyond _ c.in-Err.is).1)

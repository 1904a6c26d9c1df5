use Rattle.sound.proofs.FillLaws.{halted_same}
use Rattle.words.proofs.BitLaws.{zeros_clear, beyond_clear}
use Rattle.marking.specs.Maps.{small_map}
use Rattle.std.proofs.Common.{[], arith, sym, ◌∙◌}
use Rattle.sound.proofs.is_filled_small.Goals as goal

pub fill-requires : goal.fill-requires
fill-requires g c = (halted_same (λ j. zeros_clear small_map j ∙ sym (beyond_clear [] j (omega arith))) c.requires.0, record { some = omega arith; few = omega arith })

pub is_filled_middle-requires : goal.is_filled_middle-requires
is_filled_middle-requires g c = ((c.fill.ensures.is_beyond _ c.in-Err.is).0, omega arith, c.requires.1)

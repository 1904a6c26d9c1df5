use Rattle.examining.proofs.Examining.{fine_lent}
use Rattle.showing.proofs.ShowingLaws.{part_within}
use Rattle.showing.proofs.write_answer.Goals as goal

pub write_sound-requires : goal.write_sound-requires
write_sound-requires g c = let y = fine_lent _ _ _ c.examine.ensures c.in-Ok.is in part_within y.0.1 y.1

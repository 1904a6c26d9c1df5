use Rattle.std.proofs.Common.{rules}
use Rattle.moving.proofs.MoveLaws.{room_to_copy, not_carried, was_carried}
use Rattle.moving.proofs.carry.carry.Goals as goal

pub copy-requires : goal.copy-requires
copy-requires g c = room_to_copy c.requires.holding c.requires.asked _ c.in_ok-new.ensures _ _ (search rules) c.min.ensures

pub returns-in_err-new : goal.returns-in_err-new
returns-in_err-new g c = rw c.from_residual.ensures (not_carried c.requires.holding c.requires.asked c.in_err-new.ensures)

pub returns : goal.returns
returns g c = was_carried c.requires.holding c.requires.asked _ c.in_ok-new.ensures (search rules) _ c.min.ensures _ c.copy.ensures

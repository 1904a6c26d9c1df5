use Rattle.sound.proofs.HereFilled.{sound_fixed, sound_filled}
use Rattle.sound.proofs.FilledHere.{sound_of}
use Rattle.telling.proofs.Tellings.{clash, tells_no, tells_so}
use Rattle.sound.specs.Told.{Fixed}
use Rattle.model.specs.Shape.{end_of}
use Rattle.std.proofs.Common.{length}
use Rattle.sound.proofs.is_sound.Goals as goal

pub returns-then-not-is_fixed : goal.returns-then-not-is_fixed
returns-then-not-is_fixed g c = tells_no _ (λ s. clash _ c.if-not-is_fixed.true (c.is_fixed.ensures.is_yes (rw c.end_of-end.ensures (sound_fixed g.met.W.Width.width _ s))))

pub is_filled-requires : goal.is_filled-requires
is_filled-requires g c = (c.requires, c.end_of-end.ensures, c.is_fixed.ensures.yes_is c.if-not-is_fixed.false)

pub returns : goal.returns
returns g c =
    let fixed : Fixed g.W.Width.BYTES c.args.h.now (end_of (length c.args.h.now)) = rw c.end_of-end.ensures at (c.is_fixed.ensures.yes_is c.if-not-is_fixed.false) in
    tells_so (sound_of g.met.W.Width.width _ fixed) (sound_filled g.met.W.Width.width _) (rw c.end_of-end.ensures at c.is_filled.ensures)

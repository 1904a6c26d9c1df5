use Rattle.std.proofs.Common.{sym, ◌∙◌}
use Rattle.growing.proofs.GrowLaws.{tells_fixed, tells_more}
use Rattle.growing.proofs.room_to_grow.Goals as goal

pub returns-then-not-grows : goal.returns-then-not-grows
returns-then-not-grows g c = tells_fixed g.W.Width.BYTES _ _ (sym c.grows.ensures ∙ c.if-not-grows.true)

pub returns : goal.returns
returns g c = tells_more g.W.Width.BYTES _ _ c.requires (sym c.grows.ensures ∙ c.if-not-grows.false)

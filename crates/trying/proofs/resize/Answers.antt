use Rattle.std.proofs.Common.{sym, ◌∙◌}
use Rattle.trying.proofs.InTurn.{first_gives, second_gives, third_gives}
use Rattle.trying.proofs.resize.Goals as goal

pub returns-then-not-says_no_room : goal.returns-then-not-says_no_room
returns-then-not-says_no_room g c = first_gives g.met.W.Width.width _ c.args.a.0 c.args.n c.resize_in_place-first.result _ c.resize_in_place-first.ensures (sym c.says_no_room.ensures ∙ c.if-not-says_no_room.true)

pub returns-then-not-says_no_room-2 : goal.returns-then-not-says_no_room-2
returns-then-not-says_no_room-2 g c = second_gives g.met.W.Width.width _ c.args.a.0 c.args.n c.resize_in_place-first.result _ c.resize_in_place-first.ensures (sym c.says_no_room.ensures ∙ c.if-not-says_no_room.false) c.relocate-second.result _ c.relocate-second.ensures (sym c.says_no_room-2.ensures ∙ c.if-not-says_no_room-2.true)

pub returns : goal.returns
returns g c = third_gives g.met.W.Width.width _ c.args.a.0 c.args.n c.resize_in_place-first.result _ c.resize_in_place-first.ensures (sym c.says_no_room.ensures ∙ c.if-not-says_no_room.false) c.relocate-second.result _ c.relocate-second.ensures (sym c.says_no_room-2.ensures ∙ c.if-not-says_no_room-2.false) c.keep.result c.keep.ensures

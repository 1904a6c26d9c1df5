use Rattle.std.proofs.Common.{refl, ap, ◌∙◌, Err}
use Rattle.resizing.proofs.ResizeLaws.{exits}
use Rattle.growing.specs.Growing.{Runs}
use Rattle.growing.proofs.Running.{begun, stands_ready, stands_within, grown_same, next_turn, ran_so, ran_ok, ran_err, ran_still, ran_full}
use Rattle.growing.proofs.run.Goals as goal

pub loop-a-init : goal.loop-a-init
loop-a-init g c = record { long = refl; stands = begun c.stored_end-end.ensures }

pub slice_bounds-f-end : goal.slice_bounds-f-end
slice_bounds-f-end g c = stands_within _ c.requires.holding _ c.requires.asked c.loop-a.invariant.stands

pub f-requires : goal.f-requires
f-requires g c = c.requires.runs _ (stands_ready _ c.requires.holding _ c.requires.asked c.loop-a.invariant.stands) _ refl

pub grow-requires-clause-holding : goal.grow-requires-clause-holding
grow-requires-clause-holding g c = let s = (ran_still _ c.requires.holding _ c.requires.asked (Runs g.F.Fn c.args.f) c.requires.fills c.loop-a.invariant.stands _ (c.in-Err.is ∙ ap Err c.in-NoRoom.is) (ran_so g.F.Fn c.args.f c.f.ensures)).0 in (rw s.same c.requires.holding, rw s.same s.ended)

pub returns-in_err-end-in-NoRoom : goal.returns-in_err-end-in-NoRoom
returns-in_err-end-in-NoRoom g c =
    let s = (ran_still _ c.requires.holding _ c.requires.asked (Runs g.F.Fn c.args.f) c.requires.fills c.loop-a.invariant.stands _ (c.in-Err.is ∙ ap Err c.in-NoRoom.is) (ran_so g.F.Fn c.args.f c.f.ensures)) in
    let p = exits c.in_err-end-in-NoRoom.ensures.value c.from_residual.ensures.1 in
    rw (p.1, c.in-NoRoom.is) (ran_full _ c.requires.holding _ c.requires.asked (Runs g.F.Fn c.args.f) c.requires.fills s.1 _ (grown_same _ c.requires.holding _ c.requires.asked s.0 (rw p.0 at c.grow.ensures)))

pub loop-a-smaller : goal.loop-a-smaller
loop-a-smaller g c = let s = (ran_still _ c.requires.holding _ c.requires.asked (Runs g.F.Fn c.args.f) c.requires.fills c.loop-a.invariant.stands _ (c.in-Err.is ∙ ap Err c.in-NoRoom.is) (ran_so g.F.Fn c.args.f c.f.ensures)) in (next_turn _ c.requires.holding _ c.requires.asked c.loop-a.invariant s.0 (rw c.in_ok-end-in-NoRoom.ensures.ok_part at c.grow.ensures) c.grow.auto.h s.1).1

pub loop-a-preserved : goal.loop-a-preserved
loop-a-preserved g c = let s = (ran_still _ c.requires.holding _ c.requires.asked (Runs g.F.Fn c.args.f) c.requires.fills c.loop-a.invariant.stands _ (c.in-Err.is ∙ ap Err c.in-NoRoom.is) (ran_so g.F.Fn c.args.f c.f.ensures)) in (next_turn _ c.requires.holding _ c.requires.asked c.loop-a.invariant s.0 (rw c.in_ok-end-in-NoRoom.ensures.ok_part at c.grow.ensures) c.grow.auto.h s.1).0

pub returns-in-Ok : goal.returns-in-Ok
returns-in-Ok g c = ran_ok _ c.requires.holding _ c.requires.asked (Runs g.F.Fn c.args.f) c.requires.fills c.loop-a.invariant.stands _ _ c.in-Ok.is (ran_so g.F.Fn c.args.f c.f.ensures) c.f.auto.arg2

pub returns-in_default : goal.returns-in_default
returns-in_default g c = ran_err _ c.requires.holding _ c.requires.asked (Runs g.F.Fn c.args.f) c.requires.fills c.loop-a.invariant.stands _ c.in_default.not-NoRoom _ c.in-Err.is (ran_so g.F.Fn c.args.f c.f.ensures) c.f.auto.arg2

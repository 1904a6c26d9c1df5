use Rattle.std.proofs.Common.{Some, ap, ◌∙◌, arith}
use Rattle.walking.proofs.Walks.{walk_wrong, walk_beyond, paged, passed_on}
use Rattle.walking.proofs.mark_blocks.Goals as goal

pub returns-in-Beyond : goal.returns-in-Beyond
returns-in-Beyond g c = let z = (paged c.loop-at.invariant c.pass_page.ensures).is_beyond _ (c.in_ok-s.was ∙ ap Some c.in-Beyond.is) in walk_beyond _ z.0 z.1

pub pass_blocks-requires : goal.pass_blocks-requires
pass_blocks-requires g c = let z = (paged c.loop-at.invariant c.pass_page.ensures).is_on _ (c.in_ok-s.was ∙ ap Some c.in-On.is) in rw z.0.room.stops z.0.room

pub returns-in_err-at-in-On : goal.returns-in_err-at-in-On
returns-in_err-at-in-On g c =
    let z = (paged c.loop-at.invariant c.pass_page.ensures).is_on _ (c.in_ok-s.was ∙ ap Some c.in-On.is) in
    rw c.from_residual-in_err-at-in-On.ensures (walk_wrong ((passed_on z.0 c.pass_blocks.ensures).is_no c.in_err-at-in-On.was))

pub loop-at-smaller : goal.loop-at-smaller
loop-at-smaller g c =
    let z = (paged c.loop-at.invariant c.pass_page.ensures).is_on _ (c.in_ok-s.was ∙ ap Some c.in-On.is) in
    omega (arith, ((passed_on z.0 c.pass_blocks.ensures).is_to _ c.in_ok-at-in-On.was).1.1, z.1)

pub loop-at-preserved : goal.loop-at-preserved
loop-at-preserved g c =
    let z = (paged c.loop-at.invariant c.pass_page.ensures).is_on _ (c.in_ok-s.was ∙ ap Some c.in-On.is) in
    let x = (passed_on z.0 c.pass_blocks.ensures).is_to _ c.in_ok-at-in-On.was in
    record { halted = record { stood = x.0; paused = x.1.0 }; size = omega (arith, c.pass_page.auto, c.loop-at.invariant.size) }

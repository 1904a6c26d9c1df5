use Rattle.resizing.proofs.BlockMoving.{mendable, found_again, given_back}
use Rattle.moving.proofs.MendLaws.{prev_back, back_room}
use Rattle.resizing.proofs.ResizeLaws.{exits, moved_nowhere, block_large, block_holds}
use Rattle.std.proofs.Common.{arith, rules}
use Rattle.resizing.proofs.resize.move_block.Goals as goal

pub back_at-requires : goal.back_at-requires
back_at-requires g c = prev_back c.requires.block_live_at

pub word-requires : goal.word-requires
word-requires g c = back_room c.requires.block_live_at _ c.back_at.ensures

pub block_capacity-requires : goal.block_capacity-requires
block_capacity-requires g c = omega (arith, block_large c.requires.block_live_at)

pub carry-requires : goal.carry-requires
carry-requires g c = record { holding = rw c.block_capacity.ensures (block_holds c.requires.block_live_at); asked = c.requires.asked }

pub mend-y-requires : goal.mend-y-requires
mend-y-requires g c = mendable c.requires.block_live_at (rw c.block_capacity.ensures at c.carry.ensures) c.requires.asked _ c.in_ok-new.ensures.ok_part _ _ c.back_at.ensures c.word.ensures

pub release-requires : goal.release-requires
release-requires g c = found_again c.requires.block_live_at (rw c.block_capacity.ensures at c.carry.ensures) c.requires.asked _ c.in_ok-new.ensures.ok_part _ _ c.back_at.ensures c.word.ensures c.mend-y.ensures (search rules)

pub returns-in_err-new : goal.returns-in_err-new
returns-in_err-new g c = let p = exits c.in_err-new.ensures.value c.from_residual.ensures.1 in rw p.1 (moved_nowhere (rw c.block_capacity.ensures at c.carry.ensures) (block_holds c.requires.block_live_at) p.0)

pub returns : goal.returns
returns g c = given_back c.requires.block_live_at (rw c.block_capacity.ensures at c.carry.ensures) c.requires.asked _ c.in_ok-new.ensures.ok_part _ _ c.back_at.ensures c.word.ensures c.mend-y.ensures _ c.release.ensures

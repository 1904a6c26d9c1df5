use Rattle.std.proofs.Common.{arith, refl}
use Rattle.reshaping.proofs.ReshapeLaws.{behind_room, reach_above, reached}
use Rattle.releasing.proofs.ReleaseLaws.{around, right_room, live_used}
use Rattle.reshaping.proofs.reach.Goals as goal

pub link_at-link-requires : goal.link_at-link-requires
link_at-link-requires g c = omega (arith, around _ _ (live_used c.requires))

pub word-requires : goal.word-requires
word-requires g c = omega (arith, around _ _ (live_used c.requires), c.link_at-link.ensures)

pub overflow_add-at : goal.overflow_add-at
overflow_add-at g c = omega (arith, around _ _ (live_used c.requires))

pub right_edge-edge-requires : goal.right_edge-edge-requires
right_edge-edge-requires g c = right_room _ _ (live_used c.requires) _ (rw c.link_at-link.ensures at c.word.ensures)

pub back_at-back-requires : goal.back_at-back-requires
back_at-back-requires g c = behind_room _ _ c.requires _ _ c.link_at-link.ensures c.word.ensures _ _ c.right_edge-edge.ensures.0 c.right_edge-edge.ensures.1

pub overflow_sub-result : goal.overflow_sub-result
overflow_sub-result g c = reach_above _ _ c.requires _ _ c.link_at-link.ensures c.word.ensures _ _ c.right_edge-edge.ensures.0 c.right_edge-edge.ensures.1

pub returns : goal.returns
returns g c = reached _ _ c.requires _ _ c.link_at-link.ensures c.word.ensures _ _ c.right_edge-edge.ensures.0 c.right_edge-edge.ensures.1 _ refl refl refl refl refl c.back_at-back.ensures

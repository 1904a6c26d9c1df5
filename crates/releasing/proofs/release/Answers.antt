use Rattle.std.proofs.Common.{arith, rules}
use Rattle.releasing.proofs.ReleaseLaws.{around, right_room, release_room, release_law}
use Rattle.releasing.proofs.release.Goals as goal

pub overflow_add-q : goal.overflow_add-q
overflow_add-q g c = omega (arith, around _ _ c.requires)

pub link_at-requires : goal.link_at-requires
link_at-requires g c = omega (arith, around _ _ c.requires)

pub word-requires : goal.word-requires
word-requires g c = omega (arith, around _ _ c.requires, c.link_at.ensures)

pub left_edge-low-requires : goal.left_edge-low-requires
left_edge-low-requires g c = record { width = c.requires.width; low = omega (arith, around _ _ c.requires); below = omega (arith, around _ _ c.requires); inside = omega (arith, around _ _ c.requires) }

pub right_edge-high-requires : goal.right_edge-high-requires
right_edge-high-requires g c = right_room _ _ c.requires _ (rw c.link_at.ensures at c.word.ensures)

pub put_linked-requires : goal.put_linked-requires
put_linked-requires g c = release_room _ _ c.requires _ _ _ _ _ (rw c.link_at.ensures at c.word.ensures) c.left_edge-low.ensures.0 c.left_edge-low.ensures.1 c.right_edge-high.ensures.0 c.right_edge-high.ensures.1

pub returns : goal.returns
returns g c = release_law _ _ c.requires _ _ _ _ _ (rw c.link_at.ensures at c.word.ensures) c.left_edge-low.ensures.0 c.left_edge-low.ensures.1 c.right_edge-high.ensures.0 c.right_edge-high.ensures.1 (λ i. search rules) _ c.put_linked.ensures

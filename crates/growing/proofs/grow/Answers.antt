use Rattle.std.proofs.Common.{arith, rules}
use Rattle.model.proofs.Sizes.{most_bound}
use Rattle.growing.proofs.GrowLaws.{ends_with, part_whole, edge_within, too_little, extend_room, grown_there}
use Rattle.telling.proofs.Tellings.{clash}
use Rattle.growing.proofs.grow.Goals as goal

pub returns-then-not-room_to_grow : goal.returns-then-not-room_to_grow
returns-then-not-room_to_grow g c = ends_with _ c.requires.holding.0 _ c.requires.asked _ c.requires.holding.1 (λ m. clash _ c.if-not-room_to_grow.true (c.room_to_grow.ensures.is_yes m))

pub edge-from-requires : goal.edge-from-requires
edge-from-requires g c = part_whole _ c.requires.holding.0 _ c.requires.asked _ c.requires.holding.1

pub overflow_sub-h : goal.overflow_sub-h
overflow_sub-h g c = edge_within _ c.requires.holding.0 _ c.requires.asked _ c.requires.holding.1 _ _ c.wanted-need.ensures c.edge-from.ensures

pub returns-then-h-from : goal.returns-then-h-from
returns-then-h-from g c = too_little _ c.requires.holding.0 _ c.requires.asked _ c.requires.holding.1 _ _ c.wanted-need.ensures c.edge-from.ensures (omega (arith, c.if-h-from.true))

pub free_before-before-requires : goal.free_before-before-requires
free_before-before-requires g c = record { whole = part_whole _ c.requires.holding.0 _ c.requires.asked _ c.requires.holding.1; edge_at = c.edge-from.ensures }

pub overflow_add-to : goal.overflow_add-to
overflow_add-to g c = let x = c.requires.holding.0 in
    omega (arith, edge_within _ x _ c.requires.asked _ c.requires.holding.1 _ _ c.wanted-need.ensures c.edge-from.ensures, x.lent.1, most_bound x.width, x.width.most, c.if-h-from.false)

pub extend-requires : goal.extend-requires
extend-requires g c = extend_room _ c.requires.holding.0 _ c.requires.asked _ c.requires.holding.1 _ _ c.wanted-need.ensures c.edge-from.ensures (omega (arith, c.if-h-from.false)) _ c.free_before-before.ensures

pub returns : goal.returns
returns g c = grown_there _ c.requires.holding.0 _ c.requires.asked _ c.requires.holding.1 _ _ c.wanted-need.ensures c.edge-from.ensures (omega (arith, c.if-h-from.false)) _ c.free_before-before.ensures (λ i. search rules) _ c.extend.ensures

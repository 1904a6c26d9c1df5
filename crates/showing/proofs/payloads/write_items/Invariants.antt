use Rattle.std.proofs.Common.{◌+◌, ◌-◌, ◌*◌, ◌≤◌, ◌≡◌, length}
use Rattle.model.specs.Shape.{shape, item_size}
use Rattle.showing.proofs.payloads.write_items.Given as goal

abbrev pub invariant-loop : goal.invariant-loop
invariant-loop g l = (l.size ≡ item_size (shape g.W.Width.BYTES) l.c) × (l.q.0 + ((shape g.W.Width.BYTES).per_page l.c - l.counter) * item_size (shape g.W.Width.BYTES) l.c ≤ length l.h)

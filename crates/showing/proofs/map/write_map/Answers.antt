use Rattle.std.proofs.Common.{arith}
use Rattle.showing.proofs.ShowingLaws.{area}
use Rattle.showing.proofs.map.write_map.Goals as goal

pub overflow_sub-part : goal.overflow_sub-part
overflow_sub-part g c = omega (arith, area _ _ c.heap.invariant, c.end_of.ensures, c.start.ensures)

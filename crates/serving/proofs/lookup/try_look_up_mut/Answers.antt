use Rattle.std.proofs.Common.{arith, rules}
use Rattle.examining.proofs.Examining.{passed_on}
use Rattle.serving.specs.Lookup.{TriedPartMut}
use Rattle.serving.proofs.Answering.{no_part, part_bytes, part_some}
use Rattle.serving.proofs.lookup.try_look_up_mut.Goals as goal

pub returns-in_err-n : goal.returns-in_err-n
returns-in_err-n g c = passed_on (λ r. TriedPartMut g.W.Width.BYTES c.args.h c.args.a.0 r) _ _ c.from_residual.ensures.1 (no_part _ _ c.in_err-n.ensures)

pub overflow_add-result : goal.overflow_add-result
overflow_add-result g c = omega (arith, c.in_ok-n.ensures.3)

pub slice_bounds-h-end : goal.slice_bounds-h-end
slice_bounds-h-end g c = omega (arith, c.in_ok-n.ensures.3)

pub returns : goal.returns
returns g c = record { bytes = part_bytes _ _ c.in_ok-n.ensures; granted = c.in_ok-n.ensures.1; some_byte = part_some _ _ c.in_ok-n.ensures; same = search rules; place = search rules }

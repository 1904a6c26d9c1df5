use Rattle.std.proofs.Common.{arith}
use Rattle.examining.specs.Examined.{Examined}
use Rattle.examining.proofs.Examining.{passed_on, examined_unfit, judged, may_read, own_sound, examined_fit}
use Rattle.examining.proofs.examine.Goals as goal

pub returns-in_err-verdict : goal.returns-in_err-verdict
returns-in_err-verdict g c = passed_on (λ r. Examined g.W.Width.BYTES c.args.h.now r) _ _ c.from_residual.ensures.1 (examined_unfit _ _ _ c.verdict.ensures _ c.in_err-verdict.was)

pub heap_of-bytes-requires : goal.heap_of-bytes-requires
heap_of-bytes-requires g c =
    let l = (judged _ _ _ c.verdict.ensures _ c.in_ok-verdict.was).0 in
    (omega (arith, l.0), may_read _ _ _ c.verdict.ensures _ c.in_ok-verdict.was)

pub invariant_of-result : goal.invariant_of-result
invariant_of-result g c = own_sound _ _ _ c.verdict.ensures _ c.in_ok-verdict.was _ c.heap_of-bytes.ensures

pub returns : goal.returns
returns g c = examined_fit _ _ _ c.verdict.ensures _ c.in_ok-verdict.was _ c.heap_of-bytes.ensures

use Rattle.std.proofs.Common.{◌+◌, ◌/◌, ◌%◌, arith, eqb-true, eq-eqb}
use Rattle.model.proofs.same_class.Goals as goal

pub returns : goal.returns
returns c = let d = c.args.d in
    ((λ e. omega (arith, eqb-true (d % 128 + d / 1024) 0 e)), (λ s. eq-eqb (d % 128 + d / 1024) 0 (omega (arith, s.0, s.1))))

use Rattle.std.proofs.Common.{leb-true, le-leb, arith}
use Rattle.telling.proofs.Tellings.{tells_no}
use Rattle.examining.proofs.is_size.Goals as goal

pub returns-then-n-eq0 : goal.returns-then-n-eq0
returns-then-n-eq0 g c = tells_no _ (λ l. omega arith)

pub returns : goal.returns
returns g c = record { yes_is = λ e. (omega arith, omega (arith, leb-true c.args.n c.longest.result e)); is_yes = λ l. le-leb c.args.n c.longest.result (omega arith) }

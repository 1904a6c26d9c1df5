use Rattle.std.proofs.Common.{leb-true, le-leb, arith, length}
use Rattle.telling.proofs.Tellings.{tells_no}
use Rattle.examining.proofs.is_lent.Goals as goal

pub returns-then-h-shortest : goal.returns-then-h-shortest
returns-then-h-shortest g c = tells_no _ (λ l. omega arith)

pub returns : goal.returns
returns g c = record { yes_is = λ e. (omega arith, omega (arith, leb-true (length c.args.h.now) c.longest.result e)); is_yes = λ l. le-leb (length c.args.h.now) c.longest.result (omega arith) }

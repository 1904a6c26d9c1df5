use Rattle.std.proofs.Common.{sym, ◌∙◌, arith}
use Rattle.ending.proofs.Ends.{tells_ends, tells_near, tells_far, tells_eight}
use Rattle.ending.proofs.may_end.Goals as goal

pub returns-then-not-grows : goal.returns-then-not-grows
returns-then-not-grows g c = rw c.end_of.ensures (tells_ends g.W.Width.BYTES c.args.n c.args.end.0 (sym c.grows.ensures ∙ c.if-not-grows.true))

pub returns-then-end-shortest : goal.returns-then-end-shortest
returns-then-end-shortest g c = tells_near g.W.Width.BYTES c.args.n c.args.end.0 (sym c.grows.ensures ∙ c.if-not-grows.false) (λ l. omega (arith, c.if-end-shortest.true, c.shortest.ensures, l))

pub returns-then-n-end : goal.returns-then-n-end
returns-then-n-end g c = tells_far g.W.Width.BYTES c.args.n c.args.end.0 (sym c.grows.ensures ∙ c.if-not-grows.false) (λ l. omega (arith, c.if-n-end.true, l))

pub returns : goal.returns
returns g c = tells_eight g.W.Width.BYTES c.args.n c.args.end.0 (sym c.grows.ensures ∙ c.if-not-grows.false) (omega (arith, c.if-end-shortest.false, c.shortest.ensures)) (omega (arith, c.if-n-end.false))

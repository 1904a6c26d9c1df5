use Rattle.std.proofs.Common.{sym, ◌∙◌, arith}
use Rattle.model.specs.Shape.{shape}
use Rattle.model.proofs.items.Asked.{shown_asked, shown_all}
use Rattle.model.proofs.item_shown.Goals as goal

pub returns-then-n-eq0 : goal.returns-then-n-eq0
returns-then-n-eq0 g c = c.item_capacity.ensures ∙ sym (shown_all (shape g.W.Width.BYTES) c.args.c c.args.n c.if-n-eq0.true)

pub returns-else-n-eq0 : goal.returns-else-n-eq0
returns-else-n-eq0 g c = sym (shown_asked (shape g.W.Width.BYTES) c.args.c c.args.n (omega arith))

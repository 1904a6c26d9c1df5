use Rattle.model.specs.Shape.{shape}
use Rattle.pages.proofs.PageLinks.{Linking}
use Rattle.pages.proofs.link_items.Given as goal

abbrev pub invariant-loop-left : goal.invariant-loop-left
invariant-loop-left g l = Linking g.W.Width.BYTES l.initial.h l.c l.p.0 l.size l.step ((shape g.W.Width.BYTES).per_page l.c) l.h l.header l.left

abbrev pub decreases-loop-left : goal.decreases-loop-left
decreases-loop-left g l = l.left

use Rattle.std.proofs.Common.{rules}
use Rattle.relinking.proofs.LinkLaws.{all_empty}
use Rattle.relinking.proofs.link_anew.Goals as goal

pub returns-then-from-classes : goal.returns-then-from-classes
returns-then-from-classes g c = all_empty c.requires (λ i. search rules) _ _ c.first_listed-from.ensures c.classes.ensures c.if-from-classes.true

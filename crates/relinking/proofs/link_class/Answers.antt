use Rattle.std.proofs.Common.{arith, rules}
use Rattle.relinking.proofs.LinkLaws.{laid_long}
use Rattle.relinking.proofs.ClassLaws.{emptied_level, class_linked}
use Rattle.relinking.proofs.link_class.Goals as goal

pub put_word-requires : goal.put_word-requires
put_word-requires g c = omega (arith, laid_long c.requires.class_ready.laid, c.head_at.ensures.1, c.requires.class_ready.width)

pub push_levels-requires : goal.push_levels-requires
push_levels-requires g c = emptied_level c.requires.class_ready (λ i. search rules) c.gather-m.ensures.gathered _ c.head_at.ensures.0 c.put_word.ensures

pub returns : goal.returns
returns g c = class_linked c.requires.class_ready (λ i. search rules) c.gather-m.ensures.gathered _ c.head_at.ensures.0 c.put_word.ensures c.push_levels.ensures

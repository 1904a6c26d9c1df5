use Rattle.std.proofs.Common.{arith, rules}
use Rattle.placing.proofs.Taking.{high_rest, high_whole}
use Rattle.placing.proofs.put_high.Goals as goal

pub put_free-requires : goal.put_free-requires
put_free-requires g c = record { width = search rules; least = omega (arith, c.requires.rest c.if-u-g.true); inside = search rules }

pub returns-then-u-g : goal.returns-then-u-g
returns-then-u-g g c = high_rest g.W.Width.BYTES c.args.g c.args.u c.args.kind _ c.if-u-g.true _ _ _ (rw (c.far_tag_at.ensures, c.tag_of.ensures) at c.put_word.ensures) c.put_free.ensures c.put_if.ensures

pub returns-else-u-g : goal.returns-else-u-g
returns-else-u-g g c = high_whole g.W.Width.BYTES c.args.g c.args.u c.args.kind _ c.if-u-g.false _ _ (rw (c.far_tag_at.ensures, c.tag_of.ensures) at c.put_word.ensures) c.put_if-else-u-g.ensures

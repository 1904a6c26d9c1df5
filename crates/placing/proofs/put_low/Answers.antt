use Rattle.std.proofs.Common.{ap}
use Rattle.model.specs.declared.Position.{Position}
use Rattle.placing.proofs.Taking.{low_rest, low_whole}
use Rattle.placing.proofs.put_low.Goals as goal
use Rattle.placing.proofs.put_low.Goals.{then-u-g, else-u-g}

pub returns : goal.returns
returns g c =
    elim c.if-u-g.branch [
      | then-u-g w ↦ low_rest g.W.Width.BYTES _ _ _ _ w.if-u-g.true _ _ _ (ap (λ (y : Position). y.0) w.first-is) c.put_word.ensures (rw c.tag_of.ensures at c.put_word-2.ensures)
      | else-u-g w ↦ low_whole g.W.Width.BYTES _ _ _ _ w.if-u-g.false _ _ _ (ap (λ (y : Position). y.0) w.first-is) c.put_word.ensures (rw c.tag_of.ensures at c.put_word-2.ensures)
    ]

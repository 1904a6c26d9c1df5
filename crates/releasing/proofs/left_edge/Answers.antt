use Rattle.releasing.proofs.ReleaseLaws.{left_touching, left_apart}
use Rattle.releasing.proofs.left_edge.Goals as goal

pub returns-then-touching : goal.returns-then-touching
returns-then-touching g c = left_touching _ _ _ _ _ c.if-touching.true _ _ c.previous_at.ensures c.word.ensures

pub returns : goal.returns
returns g c = left_apart g.W.Width.BYTES _ _ _ _ c.if-touching.false

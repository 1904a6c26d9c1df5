use Rattle.std.proofs.Common.{arith, eqb-true}
use Rattle.visiting.proofs.Counting.{four_empty}
use Rattle.telling.proofs.WordsRead.{read_at}
use Rattle.visiting.proofs.are_empty.Goals as goal

pub returns : goal.returns
returns g c = λ e. four_empty (omega (arith, c.classes.ensures, c.if-classes-c.false)) (read_at _ _ c.word-one.ensures c.head_at.ensures.0) (read_at _ _ c.word-two.ensures c.head_at-2.ensures.0) (read_at _ _ c.word-three.ensures c.head_at-3.ensures.0) (read_at _ _ c.word-four.ensures c.head_at-4.ensures.0) (eqb-true _ _ e)

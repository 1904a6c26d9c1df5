use Rattle.std.proofs.Common.{arith}
use Rattle.visiting.proofs.Counting.{none_start, none_turn, none_told}
use Rattle.telling.proofs.WordsRead.{read_at}
use Rattle.visiting.proofs.no_lists.Goals as goal

pub loop-c-init : goal.loop-c-init
loop-c-init g c = none_start c.requires.width

pub loop-c-preserved : goal.loop-c-preserved
loop-c-preserved g c = none_turn (omega (arith, c.classes-c-end.ensures, c.loop-c-test.true)) (read_at _ _ c.word-any.ensures c.head_at.ensures.0) c.loop-c.invariant

pub returns : goal.returns
returns g c = none_told (omega (arith, c.classes-c-end.ensures, c.loop-c-test.false)) c.loop-c.invariant

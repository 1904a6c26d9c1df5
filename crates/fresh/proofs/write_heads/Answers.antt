use Rattle.std.proofs.Common.{arith}
use Rattle.fresh.proofs.FreshWords.{clear_start, clear_turn, clear_done}
use Rattle.fresh.proofs.write_heads.Goals as goal

pub loop-c-init : goal.loop-c-init
loop-c-init g c = clear_start _ c.requires

pub loop-c-preserved : goal.loop-c-preserved
loop-c-preserved g c = clear_turn c.loop-c.invariant (omega (arith, c.classes-c-end.ensures, c.loop-c-test.true)) _ (rw c.head_at.ensures.0 at c.put_word.ensures)

pub returns : goal.returns
returns g c = clear_done c.loop-c.invariant (omega (arith, c.classes-c-end.ensures, c.loop-c-test.false))

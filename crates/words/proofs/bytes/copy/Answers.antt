use Rattle.std.proofs.Common.{◌+◌, ◌-◌, arith}
use Rattle.words.specs.Copy.{chunk}
use Rattle.words.proofs.CopyLaws.{copy_start, copy_more, copy_done}
use Rattle.words.proofs.bytes.copy.Goals.{else-loop-i-test, then-loop-i-test+else-last-i-gt128}
use Rattle.words.proofs.bytes.copy.Goals as goal

pub loop-i-init : goal.loop-i-init
loop-i-init c = copy_start _ _ _ _ c.requires

pub loop-i-preserved : goal.loop-i-preserved
loop-i-preserved c = copy_more c.loop-i.invariant _ chunk (omega arith) (omega arith) (omega arith) _ c.copy_chunk.ensures

pub returns : goal.returns
returns c = elim c.loop-i-test.branch [
  | else-loop-i-test w ↦ copy_done (copy_more {i = c.loop-i.i} (rw w.b-is c.loop-i.invariant) (c.args.n - chunk) chunk (omega arith) (omega (arith, c.loop-i.invariant.pasting.most)) (omega arith) _ c.copy_chunk-2.ensures) (omega arith)
  | then-loop-i-test+else-last-i-gt128 w ↦ copy_done (copy_more {i = c.loop-i.i + chunk} (rw w.b-is (copy_more c.loop-i.invariant _ chunk (omega arith) (omega arith) (omega arith) _ w.copy_chunk.ensures)) (c.args.n - chunk) chunk (omega arith) (omega arith) (omega arith) _ c.copy_chunk-2.ensures) (omega arith)
]

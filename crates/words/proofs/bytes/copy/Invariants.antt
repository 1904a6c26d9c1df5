use Rattle.words.proofs.CopyLaws.{Copying}
use Rattle.words.proofs.bytes.copy.Given as goal

abbrev pub invariant-loop-i : goal.invariant-loop-i
invariant-loop-i l = Copying l.initial.b l.from l.to l.n l.b l.i

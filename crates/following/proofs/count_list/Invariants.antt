use Rattle.std.proofs.Common.{length}
use Rattle.words.specs.Word.{word_at}
use Rattle.model.specs.Shape.{shape, end_of}
use Rattle.model.specs.Parts.{head_at}
use Rattle.following.proofs.ListLaws.{ListInv}
use Rattle.following.proofs.count_list.Given as goal

abbrev pub invariant-loop-i : goal.invariant-loop-i
invariant-loop-i g l = ListInv g.W.Width.BYTES l.h (end_of (length l.h)) l.c (word_at g.W.Width.BYTES l.h (head_at (shape g.W.Width.BYTES) l.c)) l.m l.before l.n l.i

abbrev pub decreases-loop-i : goal.decreases-loop-i
decreases-loop-i g l = l.n

use Rattle.std.proofs.Common.{◌∙◌, arith}
use Rattle.std.proofs.Math.Nat.{add_assoc}
use Rattle.words.specs.Word.{word_at}
use Rattle.words.proofs.FourWidth.word.Goals as goal

pub returns : goal.returns
unfolding word_at
returns c = c.from_le_bytes.ensures ∙ simp add_assoc (omega arith)

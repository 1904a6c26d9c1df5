use Rattle.std.proofs.Common.{rules}
use Rattle.words.specs.Word.{word_at}
use Rattle.records.proofs.number.Goals as goal

pub returns : goal.returns
unfolding word_at
returns c = search rules

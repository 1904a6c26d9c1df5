use Rattle.std.proofs.Common.{ℕ, ap, ◌∙◌}
use Rattle.words.specs.Word.{word_at}
use Rattle.ending.proofs.stored_end.Goals as goal

pub returns : goal.returns
returns g c = c.word.ensures ∙ ap (λ (p : ℕ). word_at g.W.Width.BYTES c.args.h.now p) c.end_at.ensures

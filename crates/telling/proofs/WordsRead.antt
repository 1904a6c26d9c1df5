-- Words that are read.
use Rattle.std.proofs.Common.{◌≡◌, ℕ, List, ap, ◌∙◌}
use Rattle.words.specs.Word.{word_at}

-- a word that was read at a place that was worked out
pub read_at : (w : ℕ) (b : List ℕ) {p q r : ℕ} → r ≡ word_at w b p → p ≡ q → r ≡ word_at w b q
read_at w b e f = e ∙ ap (λ (x : ℕ). word_at w b x) f

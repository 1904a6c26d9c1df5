-- Words of w bytes, least byte first, in a list of bytes.
use Rattle.std.specs.Prelude.{ℕ, zero, suc, ◌+◌, ◌*◌, ◌/◌, ◌%◌, ◌<◌, List, get_or, set}

-- the word of w bytes at position p
unfoldable pub word_at : ℕ → List ℕ → ℕ → ℕ
word_at zero b p = 0
word_at (suc w) b p = get_or b p 0 + 256 * word_at w b (p + 1)

-- b with the word v, of w bytes, at position p
unfoldable pub put : ℕ → List ℕ → ℕ → ℕ → List ℕ
put zero b p v = b
put (suc w) b p v = put w (set b p (v % 256)) (p + 1) (v / 256)

-- every element is a byte
abbrev pub Bytes : List ℕ → Type 0
Bytes b = (i : ℕ) → get_or b i 0 < 256

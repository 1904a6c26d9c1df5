-- A map of bits in 64-bit words: bit i is bit i % 64, the lowest first, of word i / 64.
use Rattle.std.specs.Prelude.{ℕ, ◌+◌, ◌/◌, ◌%◌, ◌^◌, ◌<◌, List, length, get_or, set}

-- bit k of a number
abbrev pub bit_of : ℕ → ℕ → ℕ
bit_of x k = x / 2 ^ k % 2

-- bit i of a map
unfoldable pub bit_at : List ℕ → ℕ → ℕ
bit_at m i = bit_of (get_or m (i / 64) 0) (i % 64)

-- the map with bit i, that was clear, set
unfoldable pub marked : List ℕ → ℕ → List ℕ
marked m i = set m (i / 64) (get_or m (i / 64) 0 + 2 ^ (i % 64))

-- the map has a bit i
pub record BitIn (m : List ℕ) (i : ℕ) : Type 0 where
  pub low : i < 2 ^ 32
  pub within : i / 64 < length m

-- Bytes copied from one place of a list to another.
use Rattle.std.specs.Prelude.{ℕ, ◌+◌, ◌≤◌, ◌⊎◌, List, ◌++◌, take, drop}

-- b with the n bytes of s that stand at `from` standing at `to`
abbrev pub pasted : List ℕ → ℕ → ℕ → ℕ → List ℕ → List ℕ
pasted s from to n b = take to b ++ (take n (drop from s) ++ drop (to + n) b)

-- b with the n bytes that stand at `from` standing at `to` too
abbrev pub copied : ℕ → ℕ → ℕ → List ℕ → List ℕ
copied from to n b = pasted b from to n b

-- both places are within so many bytes, and do not overlap
pub record Room (bytes from to n : ℕ) : Type 0 where
  pub source : from + n ≤ bytes
  pub target : to + n ≤ bytes
  pub apart : (from + n ≤ to) ⊎ (to + n ≤ from)

-- how many bytes are moved at a time
abbrev pub chunk : ℕ
chunk = 128

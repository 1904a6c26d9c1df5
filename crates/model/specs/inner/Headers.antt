-- Headers of items in use as the check judges them. Contracts of inner calls name these; no public contract does, so no reader has to believe them.
use Rattle.std.specs.Prelude.{ℕ, ◌+◌, ◌*◌, ◌/◌, ◌%◌, ◌≡◌}
use Rattle.model.specs.Parts.{held_header}

-- the header of an item in use for the least size of class c
abbrev pub least_header : ℕ → ℕ
least_header c = held_header c (8 * c + 1)

-- a header that is d above that one is of a size of the same class
abbrev pub SameClass : ℕ → Type 0
SameClass d = (d % 128 ≡ 0) × (d / 1024 ≡ 0)

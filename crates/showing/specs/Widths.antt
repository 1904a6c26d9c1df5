-- By which width of words a program reads the heap in a buffer.
use Rattle.std.specs.Prelude.{ℕ, ◌≡◌, List}
use Rattle.model.specs.Shape.{hand, wide}
use Rattle.model.specs.Calls.{Opened}

-- the hand unit's where the first 8 bytes are its heap's, or else the console's
abbrev pub OwnWidth : ℕ → List ℕ → Type 0
OwnWidth w b = (Opened hand b → w ≡ hand.word) × ((Opened hand b → ⊥) → w ≡ wide.word)

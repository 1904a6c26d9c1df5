-- What the iterator over a heap's blocks gives.
use Rattle.std.specs.Prelude.{ℕ, ◌+◌, ◌≤◌, ◌≡◌, List, length, Some, None}
use Rattle.std.specs.declared.option.Option.{Option}
use Rattle.model.specs.Shape.{shape, end_of, start}
use Rattle.reading.specs.Stepping.{WalkAt, BlockRead}
use Rattle.reading.specs.declared.stepping.MetBlock.{MetBlock}

-- a call of `next`, of an iterator that stood at p in the heap h, gave the block there, and the iterator goes on behind it
pub record Turned (w : ℕ) (h : List ℕ) (p : ℕ) (r : MetBlock) (h' : List ℕ) (p' : ℕ) : Type 0 where
  pub heap : h' ≡ h
  pub moved : p' ≡ p + r.size
  pub read : BlockRead w h p r

-- or the iterator was at the end, and stays
pub record Done (h : List ℕ) (p : ℕ) (h' : List ℕ) (p' : ℕ) : Type 0 where
  pub heap : h' ≡ h
  pub stays : p' ≡ p
  pub end : end_of (length h) ≤ p

abbrev pub NextBlock : ℕ → List ℕ → ℕ → Option MetBlock → List ℕ → ℕ → Type 0
NextBlock w h p None h' p' = Done h p h' p'
NextBlock w h p (Some r) h' p' = Turned w h p r h' p'

-- an iterator over all blocks of the heap h: it stands at p in h', which is h
abbrev pub FromStart : ℕ → List ℕ → List ℕ → ℕ → Type 0
FromStart w h h' p = (h' ≡ h) × (p ≡ start (shape w)) × WalkAt w h p

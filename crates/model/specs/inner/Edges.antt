-- Where a heap ends, and what a free block that grows it takes the place of. Contracts of inner calls name these; no public contract does, so no reader has to believe them.
use Rattle.std.specs.Prelude.{ℕ, ◌≡◌, List, [], ◌∷◌, ◌++◌}
use Rattle.model.specs.Layout.{Block, free, Layout}
use Rattle.model.specs.inner.Walks.{ends_free}

-- nothing behind a block in use (d: whether a free block comes before them all), or a last block that is free
pub data Last (d : ℕ) (pre : List Block) : List Block → Type 0 where
  added : ends_free d pre ≡ 0 → Last d pre []
  enlarged : (s : ℕ) → Last d pre (free s ∷ [])

-- the blocks `pre` stay where a heap with layout L grows, and it takes the place of `old`
pub record Edged (L : Layout) (pre old : List Block) : Type 0 where
  pub blocks : L.blocks ≡ pre ++ old
  pub last : Last 0 pre old

-- What the reading calls answer of a layout: look-up, a step of a walk, statistics and the table of classes.
use Rattle.std.specs.Prelude.{ℕ, zero, suc, ◌+◌, ◌-◌, max, cond, List, [], ◌∷◌, length, take, drop, eqb}
use Rattle.model.specs.Shape.{Shape, start}
use Rattle.model.specs.Layout.{Slot, idle, held, variable, page, Block, free, used, Layout, if_free, size_of, first_free}
use Rattle.model.specs.Rules.{shown_of, find}

-- what a block is: free, with its next and its previous free block; variable; a page, with its class; or there is none
pub data Kind : Type 0 where
  a_free : ℕ → ℕ → Kind
  a_variable : Kind
  a_page : ℕ → Kind
  the_end : Kind

-- a walk's answer, and where the walk then stands
pub record Step : Type 0 where
  pub position : ℕ
  pub size : ℕ
  pub kind : Kind
  pub next : ℕ

-- the sum, and the greatest, of a number that each block has
unfoldable pub total : (Block → ℕ) → List Block → ℕ
total f [] = 0
total f (b ∷ bs) = f b + total f bs

unfoldable pub greatest : (Block → ℕ) → List Block → ℕ
greatest f [] = 0
greatest f (b ∷ bs) = max (f b) (greatest f bs)

-- the items in use among a page's
unfoldable pub held_in : List Slot → ℕ
held_in [] = 0
held_in (idle ∷ ss) = held_in ss
held_in (held n ∷ ss) = suc (held_in ss)

-- a number of a block: f of a free one's size, v of a variable one, g of a page's class and items
unfoldable pub of_block : (ℕ → ℕ) → ℕ → (ℕ → List Slot → ℕ) → Block → ℕ
of_block f v g (free s) = f s
of_block f v g (used (variable s)) = v
of_block f v g (used (page c k ss)) = g c ss

abbrev pub of_free : (ℕ → ℕ) → Block → ℕ
of_free f = of_block f 0 (λ c ss. 0)

abbrev pub of_page : (ℕ → List Slot → ℕ) → Block → ℕ
of_page g = of_block (λ s. 0) 0 g

pub record Statistics : Type 0 where
  pub free_bytes : ℕ
  pub free_blocks : ℕ
  pub largest_free : ℕ
  pub variables : ℕ
  pub pages : ℕ
  pub items : ℕ

unfoldable pub counted : List Block → Statistics
counted bs =
    record {
      free_bytes = total (of_free (λ s. s)) bs;
      free_blocks = total (of_free (λ s. 1)) bs;
      largest_free = greatest (of_free (λ s. s)) bs;
      variables = total (of_block (λ s. 0) 1 (λ c ss. 0)) bs;
      pages = total (of_page (λ c ss. 1)) bs;
      items = total (of_page (λ c ss. held_in ss)) bs;
    }

-- a row of the table, for class d: pages, live items and free items
unfoldable pub row : ℕ → List Block → List ℕ
row d bs =
    total (of_page (λ c ss. cond (eqb c d) 1 0)) bs
    ∷ total (of_page (λ c ss. cond (eqb c d) (held_in ss) 0)) bs
    ∷ total (of_page (λ c ss. cond (eqb c d) (length ss - held_in ss) 0)) bs
    ∷ []

-- the rows of n classes from d on
unfoldable pub rows_from : ℕ → ℕ → List Block → List (List ℕ)
rows_from zero d bs = []
rows_from (suc n) d bs = row d bs ∷ rows_from n (d + 1) bs

module _ (S : Shape) where
  abbrev pub table : List Block → List (List ℕ)
  table bs = rows_from S.classes 0 bs

  -- Look-up: of an item at a live address as many bytes as were asked for, of a block its whole capacity
  abbrev pub looked_up : List ℕ → ℕ → Layout → List ℕ
  looked_up b a L = take (shown_of S (find S a L)) (drop a b)

  -- Walk: what the block at p is, with the blocks after it and the free block before it at prev
  unfoldable pub kind_of : ℕ → ℕ → Block → List Block → Kind
  kind_of p prev (free s) bs = a_free (first_free S (p + s) bs 0) prev
  kind_of p prev (used (variable s)) bs = a_variable
  kind_of p prev (used (page c k ss)) bs = a_page c

  -- a step of a walk that stands at w where there is no block: it stays
  abbrev pub ended : ℕ → Step
  ended w = record { position = 0; size = 0; kind = the_end; next = w }

  -- a step of a walk that stands at w, among blocks from p on with the free block before them at prev
  unfoldable pub step_from : ℕ → ℕ → ℕ → List Block → Step
  step_from w p prev [] = ended w
  step_from w p prev (b ∷ bs) =
      let later = step_from w (p + size_of S b) (if_free b p prev) bs in
      let here : Step = record { position = p; size = size_of S b; kind = kind_of p prev b bs; next = p + size_of S b } in
      cond (eqb w p) here later

  abbrev pub step : ℕ → Layout → Step
  step w L = step_from w (start S) 0 L.blocks

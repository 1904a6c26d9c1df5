-- The sweep: pages with no live item are given back, and each class's list is linked anew.
use Rattle.std.specs.Prelude.{ℕ, zero, suc, ◌+◌, cond, List, [], ◌∷◌, ◌++◌, eqb}
use Rattle.std.proofs.Math.Option.{Option, none, some}
use Rattle.model.specs.Shape.{Shape, start}
use Rattle.model.specs.Layout.{Block, Layout, size_of}
use Rattle.model.specs.Sound.{idle_in}
use Rattle.model.specs.Rules.{Spot, after, released}
use Rattle.model.specs.Reading.{total, held_in, of_page}

-- how many live items a block has, where it is a page; and 1 for a page that has none, else 0
abbrev pub live_items : Block → ℕ
live_items = of_page (λ c ss. held_in ss)

abbrev pub is_empty : Block → ℕ
is_empty = of_page (λ c ss. cond (eqb (held_in ss) 0) 1 0)

-- how many pages have no live item
abbrev pub empties : List Block → ℕ
empties bs = total is_empty bs

module _ (S : Shape) where
  -- the lowest page with no live item, as a block to be freed
  unfoldable pub empty_page : List Block → Option Spot
  empty_page [] = none
  empty_page (b ∷ bs) =
      let later = after b (empty_page bs) in
      cond (eqb (is_empty b) 1) (some (record { pre = []; size = size_of S b; post = bs })) later

  -- it freed, by the ordinary rule; the lists are left as they are
  abbrev pub page_freed : Option Spot → Layout → Layout
  page_freed none L = L
  page_freed (some t) L = record { blocks = released t; lists = L.lists }

  -- the free items of class c in pages with k live items, rising, in blocks from p on
  unfoldable pub idle_with : ℕ → ℕ → ℕ → List Block → List ℕ
  idle_with k c p [] = []
  idle_with k c p (b ∷ bs) = cond (eqb (live_items b) k) (idle_in S c p b) [] ++ idle_with k c (p + size_of S b) bs

  -- the list of class c, of pages with at most k live items: pages with most live items first, lower position first among equals, items rising within a page
  unfoldable pub relinked : ℕ → ℕ → List Block → List ℕ
  relinked zero c bs = idle_with zero c (start S) bs
  relinked (suc k) c bs = idle_with (suc k) c (start S) bs ++ relinked k c bs

  -- the lists of n classes from c on
  unfoldable pub relinked_from : ℕ → ℕ → List Block → List (List ℕ)
  relinked_from zero c bs = []
  relinked_from (suc n) c bs = relinked (S.per_page c) c bs ∷ relinked_from n (c + 1) bs

  abbrev pub linked_anew : Layout → Layout
  linked_anew L = record { blocks = L.blocks; lists = relinked_from S.classes 0 L.blocks }

  -- the layouts that a sweep goes through: k pages with no live item freed one after the other, in rising position, and then the lists linked anew
  unfoldable pub stages : ℕ → Layout → List Layout
  stages zero L = linked_anew L ∷ []
  stages (suc k) L = let next = page_freed (empty_page L.blocks) L in next ∷ stages k next

  abbrev pub swept : Layout → List Layout
  swept L = stages (empties L.blocks) L

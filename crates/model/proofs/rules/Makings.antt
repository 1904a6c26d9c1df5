-- What an allocation makes, and where: one case analysis, that the laws about allocations cite.
use Rattle.std.proofs.Common.{ℕ, ◌≤◌, ◌<◌, ◌≡◌, refl, List, [], ◌∷◌, arith, get_or, le-leb}
use Rattle.std.proofs.Math.Option.{Option, none, some}
use Rattle.std.proofs.Math.Decide.{dec_le}
use Rattle.std.proofs.lemmas.Bool.{lt-leb}
use Rattle.model.specs.Shape.{Shape, largest_item, class_of, need_of, page_need, address_of, item_at}
use Rattle.model.specs.Layout.{Layout}
use Rattle.model.specs.Rules.{Spot, Made, fit, placed, spot_at, as_variable, popped, paged, from_list, from_page, an_item, a_block, allocate}
use Rattle.model.specs.inner.Walks.{Split}
use Rattle.model.proofs.blocks.Spots.{fit_some}

module _ (S : Shape) (n : ℕ) (L : Layout) where
  -- an item of n's class is taken off the list that it has in a layout
  abbrev taken : Layout → ℕ → List ℕ → Option Made
  taken M o os = some (record { at = address_of S (item_at S o); layout = popped S n (class_of n) o os M })

  -- nothing; the first item of the list; that of a new page, where the list is empty; a block
  pub data Makes : Option Made → Type 0 where
    nothing_fits : Makes none
    listed_item : n ≤ largest_item S → (o : ℕ) (os : List ℕ) → get_or L.lists (class_of n) [] ≡ o ∷ os → Makes (taken L o os)
    new_page : n ≤ largest_item S → get_or L.lists (class_of n) [] ≡ [] → (t : Spot) → Split (page_need S (class_of n)) L t
        → (o : ℕ) (os : List ℕ) → get_or (paged S (class_of n) t L).lists (class_of n) [] ≡ o ∷ os → Makes (taken (paged S (class_of n) t L) o os)
    own_block : largest_item S < n → (t : Spot) → Split (need_of S n) L t
        → Makes (some (record { at = address_of S (spot_at S t); layout = record { blocks = placed S (need_of S n) (as_variable S) t; lists = L.lists } }))

  first_made : n ≤ largest_item S → get_or L.lists (class_of n) [] ≡ [] → (t : Spot) → Split (page_need S (class_of n)) L t
      → (l : List ℕ) → get_or (paged S (class_of n) t L).lists (class_of n) [] ≡ l → Makes (from_list S n (class_of n) (paged S (class_of n) t L) l)
  unfolding from_list
  first_made h e t s [] k = nothing_fits
  first_made h e t s (o ∷ os) k = new_page h e t s o os k

  page_made : n ≤ largest_item S → get_or L.lists (class_of n) [] ≡ [] → (x : Option Spot) → fit (page_need S (class_of n)) L.blocks ≡ x → Makes (from_page S n (class_of n) L x)
  unfolding from_page
  page_made h e none f = nothing_fits
  page_made h e (some t) f = first_made h e t (fit_some f) (get_or (paged S (class_of n) t L).lists (class_of n) []) refl

  item_made : n ≤ largest_item S → (l : List ℕ) → get_or L.lists (class_of n) [] ≡ l → Makes (an_item S n (class_of n) L l)
  unfolding an_item from_list
  item_made h [] e = page_made h e (fit (page_need S (class_of n)) L.blocks) refl
  item_made h (o ∷ os) e = listed_item h o os e

  block_made : largest_item S < n → (x : Option Spot) → fit (need_of S n) L.blocks ≡ x → Makes (a_block S (need_of S n) L x)
  unfolding a_block
  block_made h none f = nothing_fits
  block_made h (some t) f = own_block h t (fit_some f)

  -- THE LAW
  pub makes : Makes (allocate S n L)
  unfolding allocate
  makes = go (dec_le n (largest_item S))
    where
      go : Dec (n ≤ largest_item S) → Makes (allocate S n L)
      go (yes h) = rw (le-leb n (largest_item S) h) (item_made h (get_or L.lists (class_of n) []) refl)
      go (no h) = rw (lt-leb n (largest_item S) (omega arith)) (block_made (omega arith) (fit (need_of S n) L.blocks) refl)

-- The columns of the table of classes add up to the statistics.
use Rattle.std.proofs.Common.{ℕ, zero, suc, ◌+◌, ◌≤◌, ◌<◌, ◌*◌, ◌≡◌, refl, ap, ◌∙◌, cond, List, [], ◌∷◌, arith, eqb, eq-eqb, ne_eqb}
use Rattle.std.proofs.Math.Decide.{ℕ_discrete}
use Rattle.words.specs.Width.{Width}
use Rattle.model.specs.Shape.{shape}
use Rattle.model.specs.Layout.{Slot, variable, page, Block, free, used}
use Rattle.model.specs.Sound.{Allowed, AllowedUse, AllAllowed}
use Rattle.model.specs.Reading.{total, held_in, of_block, of_page, counted, row, rows_from}
use Rattle.model.specs.Walking.{column, ColumnsAdd}

-- the sum of f over n numbers from d on
unfoldable sum_of : (ℕ → ℕ) → ℕ → ℕ → ℕ
sum_of f zero d = 0
sum_of f (suc n) d = f d + sum_of f n (d + 1)

sum_zero : (n d : ℕ) → sum_of (λ e. 0) n d ≡ 0
unfolding sum_of
sum_zero zero d = refl
sum_zero (suc n) d = omega (arith, sum_zero n (d + 1))

sum_plus : (f g : ℕ → ℕ) (n d : ℕ) → sum_of (λ e. f e + g e) n d ≡ sum_of f n d + sum_of g n d
unfolding sum_of
sum_plus f g zero d = refl
sum_plus f g (suc n) d = omega (arith, sum_plus f g n (d + 1))

-- one of them, and no more, is c
sum_none : (c v n d : ℕ) → c < d → sum_of (λ e. cond (eqb c e) v 0) n d ≡ 0
unfolding sum_of
sum_none c v zero d l = refl
sum_none c v (suc n) d l = rw (ne_eqb c d (λ e. omega arith)) (omega (arith, sum_none c v n (d + 1) (omega arith)))

sum_one : (c v n d : ℕ) → d ≤ c → c < d + n → sum_of (λ e. cond (eqb c e) v 0) n d ≡ v
unfolding sum_of
sum_one c v zero d l m = absurd (omega arith)
sum_one c v (suc n) d l m = go (ℕ_discrete c d) (sum_one c v n (d + 1))
  where
    go : Dec (c ≡ d) → (d + 1 ≤ c → c < d + 1 + n → sum_of (λ e. cond (eqb c e) v 0) n (d + 1) ≡ v) → cond (eqb c d) v 0 + sum_of (λ e. cond (eqb c e) v 0) n (d + 1) ≡ v
    go (yes e) r = rw (eq-eqb c d e) (omega (arith, sum_none c v n (d + 1) (omega arith)))
    go (no k) r = rw (ne_eqb c d k) (omega (arith, r (omega arith) (omega arith)))

-- a number of pages, class by class and over all classes
module _ {w : ℕ} (wd : Width w) where
  module _ (g : ℕ → List Slot → ℕ) where
    of_class : ℕ → Block → ℕ
    of_class d = of_page (λ c ss. cond (eqb c d) (g c ss) 0)

    block_sum : (x : Block) → Allowed (shape w) x → sum_of (λ d. of_class d x) (4 * w) 0 ≡ of_page g x
    unfolding of_class of_block Allowed AllowedUse
    block_sum (free s) a = sum_zero (4 * w) 0
    block_sum (used (variable s)) a = sum_zero (4 * w) 0
    block_sum (used (page c k ss)) a = sum_one c (g c ss) (4 * w) 0 (omega arith) (omega (arith, a.0))

    total_sum : (bs : List Block) → AllAllowed (shape w) bs → sum_of (λ d. total (of_class d) bs) (4 * w) 0 ≡ total (of_page g) bs
    unfolding total AllAllowed
    total_sum [] a = sum_zero (4 * w) 0
    total_sum (x ∷ bs) a = sum_plus (λ d. of_class d x) (λ d. total (of_class d) bs) (4 * w) 0 ∙ omega (arith, block_sum x a.0, total_sum bs a.1)

  column_pages : (n d : ℕ) (bs : List Block) → column 0 (rows_from n d bs) ≡ sum_of (λ d. total (of_class (λ c ss. 1) d) bs) n d
  unfolding column rows_from row sum_of of_class
  column_pages zero d bs = refl
  column_pages (suc n) d bs = ap (λ (x : ℕ). total (of_class (λ c ss. 1) d) bs + x) (column_pages n (d + 1) bs)

  column_items : (n d : ℕ) (bs : List Block) → column 1 (rows_from n d bs) ≡ sum_of (λ d. total (of_class (λ c ss. held_in ss) d) bs) n d
  unfolding column rows_from row sum_of of_class
  column_items zero d bs = refl
  column_items (suc n) d bs = ap (λ (x : ℕ). total (of_class (λ c ss. held_in ss) d) bs + x) (column_items n (d + 1) bs)

  pub columns_add : ColumnsAdd (shape w)
  unfolding counted
  columns_add end L v =
      (column_pages (4 * w) 0 L.blocks ∙ total_sum (λ c ss. 1) L.blocks v.allowed, column_items (4 * w) 0 L.blocks ∙ total_sum (λ c ss. held_in ss) L.blocks v.allowed)

-- Sums over blocks, and what the statistics and the table of blocks are with one block more.
use Rattle.std.proofs.Common.{ℕ, zero, suc, ◌+◌, ◌-◌, ◌≤◌, ◌<◌, max, ◌*◌, ◌≡◌, refl, sym, ap, ap₂, ◌∙◌, Bool, true, false, cond, List, [], ◌∷◌, ◌++◌, arith, length, get_or, set, eqb, eq-eqb, ne_eqb}
use Rattle.std.proofs.Math.Nat.{max-zero, zero-max}
use Rattle.words.specs.Width.{Width}
use Rattle.model.specs.Shape.{shape, start}
use Rattle.model.specs.Layout.{Slot, idle, held, variable, page, Block, free, used, use_size, size_of, ends}
use Rattle.model.specs.Sound.{Allowed, AllowedUse, AllAllowed}
use Rattle.model.specs.Reading.{total, greatest, held_in, of_block, of_free, of_page, Statistics, counted, row, rows_from}

module _ (f : Block → ℕ) where
  pub total_append : (xs ys : List Block) → total f (xs ++ ys) ≡ total f xs + total f ys
  unfolding total
  total_append [] ys = omega arith
  total_append (x ∷ xs) ys = omega (arith, total_append xs ys)

  pub total_more : (xs : List Block) (y : Block) → total f (xs ++ (y ∷ [])) ≡ total f xs + f y
  unfolding total
  total_more xs y = omega (arith, total_append xs (y ∷ []))

  pub greatest_append : (xs ys : List Block) → greatest f (xs ++ ys) ≡ max (greatest f xs) (greatest f ys)
  unfolding greatest
  greatest_append [] ys = sym (zero-max (greatest f ys))
  greatest_append (x ∷ xs) ys = omega (arith, greatest_append xs ys)

  pub greatest_more : (xs : List Block) (y : Block) → greatest f (xs ++ (y ∷ [])) ≡ max (greatest f xs) (f y)
  unfolding greatest
  greatest_more xs y = greatest_append xs (y ∷ []) ∙ ap (λ (z : ℕ). max (greatest f xs) z) (max-zero (f y))

pub held_few : (ss : List Slot) → held_in ss ≤ length ss
unfolding held_in
held_few [] = omega arith
held_few (idle ∷ ss) = omega (arith, held_few ss)
held_few (held n ∷ ss) = omega (arith, held_few ss)

-- a number that is no greater than each block's size sums up to no more than the blocks take
module _ {w : ℕ} (wd : Width w) where
  module _ (f : Block → ℕ) (small : (x : Block) → Allowed (shape w) x → f x ≤ size_of (shape w) x) where
    total_below : (p : ℕ) (bs : List Block) → AllAllowed (shape w) bs → p + total f bs ≤ ends (shape w) p bs
    unfolding total ends AllAllowed
    total_below p [] a = omega arith
    total_below p (x ∷ bs) a = omega (arith, total_below (p + size_of (shape w) x) bs a.1, small x a.0)

  -- a number of a block that is no more than its size, or than a page's items and one
  of_block_below : (f : ℕ → ℕ) (v : ℕ) (g : ℕ → List Slot → ℕ) → ((s : ℕ) → 4 * w ≤ s → f s ≤ s) → v ≤ 1 → ((c : ℕ) (ss : List Slot) → g c ss ≤ length ss + 1) → (x : Block) → Allowed (shape w) x
      → of_block f v g x ≤ size_of (shape w) x
  unfolding of_block size_of use_size Allowed AllowedUse
  of_block_below f v g lf lv lg (free s) a = lf s a.0
  of_block_below f v g lf lv lg (used (variable s)) a = omega arith
  of_block_below f v g lf lv lg (used (page c k ss)) a = omega (arith, lg c ss)

  -- such a number, over the blocks before p
  module _ (p : ℕ) (bs : List Block) (a : AllAllowed (shape w) bs) (e : ends (shape w) (start (shape w)) bs ≡ p) where
    sum_below : (f : ℕ → ℕ) (v : ℕ) (g : ℕ → List Slot → ℕ) → ((s : ℕ) → 4 * w ≤ s → f s ≤ s) → v ≤ 1 → ((c : ℕ) (ss : List Slot) → g c ss ≤ length ss + 1) → total (of_block f v g) bs ≤ p
    sum_below f v g lf lv lg = omega (arith, total_below (of_block f v g) (of_block_below f v g lf lv lg) (start (shape w)) bs a)

    -- the statistics of the blocks before p are no greater than p
    pub record Below (s : Statistics) : Type 0 where
      pub free_bytes : s.free_bytes ≤ p
      pub free_blocks_lem : s.free_blocks ≤ p
      pub variables : s.variables ≤ p
      pub pages : s.pages ≤ p
      pub items : s.items ≤ p

    pub counted_below : (s : Statistics) → s ≡ counted bs → Below s
    unfolding counted
    counted_below s k =
        rw k
        record {
          free_bytes = sum_below (λ s. s) 0 (λ c ss. 0) (λ s l. omega arith) (omega arith) (λ c ss. omega arith);
          free_blocks_lem = sum_below (λ s. 1) 0 (λ c ss. 0) (λ s l. omega arith) (omega arith) (λ c ss. omega arith);
          variables = sum_below (λ s. 0) 1 (λ c ss. 0) (λ s l. omega arith) (omega arith) (λ c ss. omega arith);
          pages = sum_below (λ s. 0) 0 (λ c ss. 1) (λ s l. omega arith) (omega arith) (λ c ss. omega arith);
          items = sum_below (λ s. 0) 0 (λ c ss. held_in ss) (λ s l. omega arith) (omega arith) (λ c ss. omega (arith, held_few ss));
        }

    -- and so is every number of the table
    pub record RowBelow (r : List ℕ) : Type 0 where
      pub pages : get_or r 0 0 ≤ p
      pub live : get_or r 1 0 ≤ p
      pub free : get_or r 2 0 ≤ p

    pub row_below : (d : ℕ) (r : List ℕ) → r ≡ row d bs → RowBelow r
    unfolding row
    row_below d r k =
        rw k
        record {
          pages = sum_below (λ s. 0) 0 (λ c ss. cond (eqb c d) 1 0) (λ s l. omega arith) (omega arith) (λ c ss. cond_below (eqb c d) 1 (length ss + 1) (omega arith));
          live = sum_below (λ s. 0) 0 (λ c ss. cond (eqb c d) (held_in ss) 0) (λ s l. omega arith) (omega arith) (λ c ss. cond_below (eqb c d) (held_in ss) (length ss + 1) (omega (arith, held_few ss)));
          free = sum_below (λ s. 0) 0 (λ c ss. cond (eqb c d) (length ss - held_in ss) 0) (λ s l. omega arith) (omega arith) (λ c ss. cond_below (eqb c d) (length ss - held_in ss) (length ss + 1) (omega arith));
        }
      where
        cond_below : (y : Bool) (n m : ℕ) → n ≤ m → cond y n 0 ≤ m
        cond_below true n m l = l
        cond_below false n m l = omega arith

  -- six numbers are the statistics of blocks
  same_sums : (bs : List Block) (a b c d e f : ℕ) → a ≡ (counted bs).free_bytes → b ≡ (counted bs).free_blocks → c ≡ (counted bs).largest_free → d ≡ (counted bs).variables → e ≡ (counted bs).pages → f ≡ (counted bs).items
      → record { free_bytes = a; free_blocks = b; largest_free = c; variables = d; pages = e; items = f } ≡ counted bs
  same_sums bs a b c d e f p q r s t u = rw (p, q, r, s, t, u)

  -- the statistics with one block more
  module _ (pre : List Block) (s : Statistics) (e : s ≡ counted pre) where
    pub counted_free : (n m : ℕ) → m ≡ max s.largest_free n
        → record { free_bytes = s.free_bytes + n; free_blocks = s.free_blocks + 1; largest_free = m; variables = s.variables; pages = s.pages; items = s.items } ≡ counted (pre ++ (free n ∷ []))
    unfolding counted of_block
    counted_free n m g =
        same_sums (pre ++ (free n ∷ [])) (s.free_bytes + n) (s.free_blocks + 1) m s.variables s.pages s.items
        (ap (λ (z : Statistics). z.free_bytes + n) e ∙ sym (total_more (of_free (λ s. s)) pre (free n)))
        (ap (λ (z : Statistics). z.free_blocks + 1) e ∙ sym (total_more (of_free (λ s. 1)) pre (free n)))
        (g ∙ ap (λ (z : Statistics). max z.largest_free n) e ∙ sym (greatest_more (of_free (λ s. s)) pre (free n)))
        (ap (λ (z : Statistics). z.variables) e ∙ omega (arith, total_more (of_block (λ s. 0) 1 (λ c ss. 0)) pre (free n)))
        (ap (λ (z : Statistics). z.pages) e ∙ omega (arith, total_more (of_page (λ c ss. 1)) pre (free n)))
        (ap (λ (z : Statistics). z.items) e ∙ omega (arith, total_more (of_page (λ c ss. held_in ss)) pre (free n)))

    pub counted_variable : (n : ℕ)
        → record { free_bytes = s.free_bytes; free_blocks = s.free_blocks; largest_free = s.largest_free; variables = s.variables + 1; pages = s.pages; items = s.items } ≡ counted (pre ++ (used (variable n) ∷ []))
    unfolding counted of_block
    counted_variable n =
        same_sums (pre ++ (used (variable n) ∷ [])) s.free_bytes s.free_blocks s.largest_free (s.variables + 1) s.pages s.items
        (ap (λ (z : Statistics). z.free_bytes) e ∙ omega (arith, total_more (of_free (λ s. s)) pre (used (variable n))))
        (ap (λ (z : Statistics). z.free_blocks) e ∙ omega (arith, total_more (of_free (λ s. 1)) pre (used (variable n))))
        (ap (λ (z : Statistics). z.largest_free) e ∙ omega (arith, greatest_more (of_free (λ s. s)) pre (used (variable n))))
        (ap (λ (z : Statistics). z.variables + 1) e ∙ sym (total_more (of_block (λ s. 0) 1 (λ c ss. 0)) pre (used (variable n))))
        (ap (λ (z : Statistics). z.pages) e ∙ omega (arith, total_more (of_page (λ c ss. 1)) pre (used (variable n))))
        (ap (λ (z : Statistics). z.items) e ∙ omega (arith, total_more (of_page (λ c ss. held_in ss)) pre (used (variable n))))

    pub counted_page : (c k : ℕ) (ss : List Slot) (m : ℕ) → m ≡ held_in ss
        → record { free_bytes = s.free_bytes; free_blocks = s.free_blocks; largest_free = s.largest_free; variables = s.variables; pages = s.pages + 1; items = s.items + m } ≡ counted (pre ++ (used (page c k ss) ∷ []))
    unfolding counted of_block
    counted_page c k ss m g =
        same_sums (pre ++ (used (page c k ss) ∷ [])) s.free_bytes s.free_blocks s.largest_free s.variables (s.pages + 1) (s.items + m)
        (ap (λ (z : Statistics). z.free_bytes) e ∙ omega (arith, total_more (of_free (λ s. s)) pre (used (page c k ss))))
        (ap (λ (z : Statistics). z.free_blocks) e ∙ omega (arith, total_more (of_free (λ s. 1)) pre (used (page c k ss))))
        (ap (λ (z : Statistics). z.largest_free) e ∙ omega (arith, greatest_more (of_free (λ s. s)) pre (used (page c k ss))))
        (ap (λ (z : Statistics). z.variables) e ∙ omega (arith, total_more (of_block (λ s. 0) 1 (λ c ss. 0)) pre (used (page c k ss))))
        (ap (λ (z : Statistics). z.pages + 1) e ∙ sym (total_more (of_page (λ c ss. 1)) pre (used (page c k ss))))
        (ap₂ (λ (z : Statistics) (y : ℕ). z.items + y) e g ∙ sym (total_more (of_page (λ c ss. held_in ss)) pre (used (page c k ss))))

  -- the table with one block more that is no page of a row's class: the row stays
  three_same : {a b c a' b' c' : ℕ} → a' ≡ a → b' ≡ b → c' ≡ c → a' ∷ b' ∷ c' ∷ [] ≡ a ∷ b ∷ c ∷ []
  three_same {a} {b} {c} e f g = rw (e, f, g)

  module _ (pre : List Block) (x : Block) where
    row_plain : (d : ℕ) → ((n : ℕ → List Slot → ℕ) → of_page (λ c ss. cond (eqb c d) (n c ss) 0) x ≡ 0) → row d (pre ++ (x ∷ [])) ≡ row d pre
    unfolding row
    row_plain d z =
        three_same (omega (arith, total_more (of_page (λ c ss. cond (eqb c d) 1 0)) pre x, z (λ c ss. 1)))
        (omega (arith, total_more (of_page (λ c ss. cond (eqb c d) (held_in ss) 0)) pre x, z (λ c ss. held_in ss)))
        (omega (arith, total_more (of_page (λ c ss. cond (eqb c d) (length ss - held_in ss) 0)) pre x, z (λ c ss. length ss - held_in ss)))

    rows_plain : (n d : ℕ) → ((e : ℕ) → d ≤ e → (n : ℕ → List Slot → ℕ) → of_page (λ c ss. cond (eqb c e) (n c ss) 0) x ≡ 0) → rows_from n d (pre ++ (x ∷ [])) ≡ rows_from n d pre
    unfolding rows_from
    rows_plain zero d z = refl
    rows_plain (suc n) d z = ap₂ (λ (r : List ℕ) (l : List (List ℕ)). r ∷ l) (row_plain d (z d (omega arith))) (rows_plain n (d + 1) (λ e l. z e (omega arith)))

  pub rows_free : (n d s : ℕ) (pre : List Block) → rows_from n d (pre ++ (free s ∷ [])) ≡ rows_from n d pre
  unfolding of_block
  rows_free n d s pre = rows_plain pre (free s) n d (λ e l g. refl)

  pub rows_variable : (n d s : ℕ) (pre : List Block) → rows_from n d (pre ++ (used (variable s) ∷ [])) ≡ rows_from n d pre
  unfolding of_block
  rows_variable n d s pre = rows_plain pre (used (variable s)) n d (λ e l g. refl)

  -- with a page more of class c: row c has it
  module _ (pre : List Block) (c k : ℕ) (ss : List Slot) where
    page_elsewhere : (d : ℕ) → (c ≡ d → ⊥) → (n : ℕ → List Slot → ℕ) → of_page (λ c ss. cond (eqb c d) (n c ss) 0) (used (page c k ss)) ≡ 0
    unfolding of_block
    page_elsewhere d z n = rw (ne_eqb c d z)

    rows_behind : (n d : ℕ) → c < d → rows_from n d (pre ++ (used (page c k ss) ∷ [])) ≡ rows_from n d pre
    rows_behind n d l = rows_plain pre (used (page c k ss)) n d (λ e m. page_elsewhere e (λ f. omega arith))

    pub rows_page : (n d i : ℕ) → d + i ≡ c → i < n → rows_from n d (pre ++ (used (page c k ss) ∷ [])) ≡ set (rows_from n d pre) i (row c (pre ++ (used (page c k ss) ∷ [])))
    unfolding rows_from
    rows_page zero d i e l = absurd (omega arith)
    rows_page (suc n) d zero e l =
        ap₂ (λ (x : ℕ) (y : List (List ℕ)). row x (pre ++ (used (page c k ss) ∷ [])) ∷ y) (omega arith) (rows_behind n (d + 1) (omega arith))
    rows_page (suc n) d (suc i) e l =
        ap₂ (λ (r : List ℕ) (y : List (List ℕ)). r ∷ y) (row_plain pre (used (page c k ss)) d (page_elsewhere d (λ f. omega arith))) (rows_page n (d + 1) i (omega arith) (omega arith))

    pub row_page : (a b e m i : ℕ) → a ∷ b ∷ e ∷ [] ≡ row c pre → m ≡ held_in ss → i ≡ length ss - held_in ss → (a + 1) ∷ (b + m) ∷ (e + i) ∷ [] ≡ row c (pre ++ (used (page c k ss) ∷ []))
    unfolding row of_block
    row_page a b e m i z f g =
        three_same
        (ap (λ (x : List ℕ). get_or x 0 0 + 1) z ∙ sym (total_more (of_page (λ x ss. cond (eqb x c) 1 0)) pre (used (page c k ss)) ∙ rw (eq-eqb c c refl)))
        (ap₂ (λ (x : List ℕ) (y : ℕ). get_or x 1 0 + y) z f ∙ sym (total_more (of_page (λ x ss. cond (eqb x c) (held_in ss) 0)) pre (used (page c k ss)) ∙ rw (eq-eqb c c refl)))
        (ap₂ (λ (x : List ℕ) (y : ℕ). get_or x 2 0 + y) z g ∙ sym (total_more (of_page (λ x ss. cond (eqb x c) (length ss - held_in ss) 0)) pre (used (page c k ss)) ∙ rw (eq-eqb c c refl)))

  -- a row of the table is the class's
  pub rows_get : (n d i : ℕ) (bs : List Block) → i < n → get_or (rows_from n d bs) i [] ≡ row (d + i) bs
  unfolding rows_from
  rows_get zero d i bs l = absurd (omega arith)
  rows_get (suc n) d zero bs l = ap (λ (x : ℕ). row x bs) (omega arith)
  rows_get (suc n) d (suc i) bs l = rows_get n (d + 1) i bs (omega arith) ∙ ap (λ (x : ℕ). row x bs) (omega arith)

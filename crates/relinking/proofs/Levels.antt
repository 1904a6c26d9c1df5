-- The pages with k live items of a class, and their free items.
use Rattle.std.proofs.Common.{ℕ, zero, suc, ◌+◌, ◌<◌, ◌≡◌, refl, sym, ap, ◌∙◌, Bool, true, false, cond, List, [], ◌∷◌, ◌++◌, append_assoc, append-nil, arith, length, get_or, drop, drop-cons, eqb, eq-eqb, ne_eqb}
use Rattle.std.proofs.Math.Decide.{ℕ_discrete}
use Rattle.model.specs.Shape.{Shape, shape, start, item_size}
use Rattle.model.specs.Parts.{first_item_at}
use Rattle.model.specs.Layout.{Slot, idle, held, variable, page, Block, free, used, Layout, size_of, ends}
use Rattle.model.specs.Sound.{Allowed, AllowedUse, AllAllowed, idle_slots, idle_in}
use Rattle.model.specs.Reading.{held_in, of_block}
use Rattle.model.specs.Sweeping.{live_items, idle_with}
use Rattle.model.proofs.walks.Totals.{held_few}
use Rattle.relinking.specs.Relink.{entry_of, Leaf, entries, leaf, leaves, PageThere}

-- no page at all
abbrev pub blank : Leaf
blank = record { at = 0; slots = [] }

-- what the table says of page i
pub get_entries : (i : ℕ) (xs : List Leaf) → i < length xs → get_or (entries xs) i 0 ≡ entry_of (get_or xs i blank).at (held_in (get_or xs i blank).slots)
unfolding entries
get_entries i [] l = absurd (omega arith)
get_entries zero (x ∷ xs) l = refl
get_entries (suc i) (x ∷ xs) l = get_entries i xs (omega arith)

module _ (S : Shape) (k c : ℕ) where
  -- the free items of a page, where it has k live items; and of pages
  abbrev items_of : Leaf → List ℕ
  items_of x = cond (eqb (held_in x.slots) k) (idle_slots S c (first_item_at S x.at) x.slots) []

  unfoldable pub level_of : List Leaf → List ℕ
  level_of [] = []
  level_of (x ∷ xs) = items_of x ++ level_of xs

  level_append : (xs ys : List Leaf) → level_of (xs ++ ys) ≡ level_of xs ++ level_of ys
  unfolding level_of
  level_append [] ys = refl
  level_append (x ∷ xs) ys = ap (λ (l : List ℕ). items_of x ++ l) (level_append xs ys) ∙ sym (append_assoc (items_of x) (level_of xs) (level_of ys))

  none_either : (t : Bool) → cond {A = List ℕ} t [] [] ≡ []
  none_either true = refl
  none_either false = refl

  leaf_level : (p : ℕ) (b : Block) → cond (eqb (live_items b) k) (idle_in S c p b) [] ≡ level_of (leaf S c p b)
  unfolding level_of leaf idle_in of_block
  leaf_level p (free s) = none_either (eqb 0 k)
  leaf_level p (used (variable s)) = none_either (eqb 0 k)
  leaf_level p (used (page d j ss)) = go (ℕ_discrete c d)
    where
      go : Dec (c ≡ d) → cond (eqb (held_in ss) k) (cond (eqb c d) (idle_slots S d (first_item_at S p) ss) []) [] ≡ level_of (cond (eqb c d) (record { at = p; slots = ss } ∷ []) [])
      go (yes e) = rw (eq-eqb c d e) (ap (λ (x : ℕ). cond (eqb (held_in ss) k) (idle_slots S x (first_item_at S p) ss) []) (sym e) ∙ sym (append-nil (items_of (record { at = p; slots = ss }))))
      go (no e) = rw (ne_eqb c d e) (none_either (eqb (held_in ss) k))

  -- so the pages' free items are those of the blocks
  pub level_is : (p : ℕ) (bs : List Block) → idle_with S k c p bs ≡ level_of (leaves S c p bs)
  unfolding idle_with leaves
  level_is p [] = unfold level_of in refl
  level_is p (b ∷ bs) = rw (level_append (leaf S c p b) (leaves S c (p + size_of S b) bs), leaf_level p b, level_is (p + size_of S b) bs)

  -- there are none where no page has so many live items
  pub level_none : (xs : List Leaf) → ((i : ℕ) → i < length xs → held_in (get_or xs i blank).slots ≡ k → ⊥) → level_of xs ≡ []
  unfolding level_of
  level_none [] n = refl
  level_none (x ∷ xs) n = rw (ne_eqb (held_in x.slots) k (n 0 (omega arith))) (level_none xs (λ i l. n (suc i) (omega arith)))

  -- from page i on: its free items and those after it, or those after it
  module _ (i : ℕ) (xs : List Leaf) (l : i < length xs) where
    pub level_this : held_in (get_or xs i blank).slots ≡ k → level_of (drop i xs) ≡ idle_slots S c (first_item_at S (get_or xs i blank).at) (get_or xs i blank).slots ++ level_of (drop (suc i) xs)
    unfolding level_of
    level_this e = ap level_of (drop-cons xs i blank l) ∙ rw (eq-eqb (held_in (get_or xs i blank).slots) k e) refl

    pub level_other : (held_in (get_or xs i blank).slots ≡ k → ⊥) → level_of (drop i xs) ≡ level_of (drop (suc i) xs)
    unfolding level_of
    level_other e = ap level_of (drop-cons xs i blank l) ∙ rw (ne_eqb (held_in (get_or xs i blank).slots) k e) refl

-- a page whose items are all live has no free one
module _ (S : Shape) (c : ℕ) where
  full_slots : (p : ℕ) (ss : List Slot) → held_in ss ≡ length ss → idle_slots S c p ss ≡ []
  unfolding idle_slots held_in
  full_slots p [] e = refl
  full_slots p (idle ∷ ss) e = absurd (omega (arith, e, held_few ss))
  full_slots p (held n ∷ ss) e = full_slots (p + item_size S c) ss (omega (arith, e))

  full_block : (p : ℕ) (b : Block) → Allowed S b → cond (eqb (live_items b) (S.per_page c)) (idle_in S c p b) [] ≡ []
  unfolding idle_in of_block Allowed AllowedUse
  full_block p (free s) a = none_either S 0 c (eqb 0 (S.per_page c))
  full_block p (used (variable s)) a = none_either S 0 c (eqb 0 (S.per_page c))
  full_block p (used (page d j ss)) a = go (ℕ_discrete c d) (ℕ_discrete (held_in ss) (S.per_page c))
    where
      go : Dec (c ≡ d) → Dec (held_in ss ≡ S.per_page c) → cond (eqb (held_in ss) (S.per_page c)) (cond (eqb c d) (idle_slots S d (first_item_at S p) ss) []) [] ≡ []
      go e (no n) = rw (ne_eqb (held_in ss) (S.per_page c) n) refl
      go (no n) (yes f) = rw (ne_eqb c d n) (none_either S 0 c (eqb (held_in ss) (S.per_page c)))
      go (yes e) (yes f) =
          let all : held_in ss ≡ length ss = f ∙ ap (λ (x : ℕ). S.per_page x) e ∙ sym a.1 in
          rw (eq-eqb (held_in ss) (S.per_page c) f, eq-eqb c d e, ← e) (full_slots (first_item_at S p) ss all)

  pub full_none : (p : ℕ) (bs : List Block) → AllAllowed S bs → idle_with S (S.per_page c) c p bs ≡ []
  unfolding idle_with AllAllowed
  full_none p [] a = refl
  full_none p (b ∷ bs) a = rw (full_block p b a.0, full_none (p + size_of S b) bs a.1) refl

-- page i stands among the blocks
module _ (S : Shape) (c : ℕ) where
  record Stood (p : ℕ) (bs : List Block) (x : Leaf) : Type 0 where
    pub pre : List Block
    pub spare : ℕ
    pub post : List Block
    pub blocks : bs ≡ pre ++ (used (page c spare x.slots) ∷ post)
    pub begins : ends S p pre ≡ x.at

  stood_behind : (p : ℕ) (b : Block) (bs : List Block) (x : Leaf) → Stood (p + size_of S b) bs x → Stood p (b ∷ bs) x
  unfolding ends
  stood_behind p b bs x s = record { pre = b ∷ s.pre; spare = s.spare; post = s.post; blocks = ap (λ (l : List Block). b ∷ l) s.blocks; begins = s.begins }

  leaf_stands : (p : ℕ) (bs : List Block) (i : ℕ) → i < length (leaves S c p bs) → Stood p bs (get_or (leaves S c p bs) i blank)
  unfolding leaves leaf ends
  leaf_stands p [] i l = absurd (omega arith)
  leaf_stands p (free s ∷ bs) i l = stood_behind p (free s) bs (get_or (leaves S c (p + size_of S (free s)) bs) i blank) (leaf_stands (p + size_of S (free s)) bs i l)
  leaf_stands p (used (variable s) ∷ bs) i l = stood_behind p (used (variable s)) bs (get_or (leaves S c (p + size_of S (used (variable s))) bs) i blank) (leaf_stands (p + size_of S (used (variable s))) bs i l)
  leaf_stands p (used (page d k ss) ∷ bs) i l = go i (ℕ_discrete c d) l (λ j. leaf_stands (p + size_of S (used (page d k ss))) bs j)
    where
      go : (i : ℕ) → Dec (c ≡ d) → i < length (cond (eqb c d) (record { at = p; slots = ss } ∷ []) [] ++ leaves S c (p + size_of S (used (page d k ss))) bs)
          → ((j : ℕ) → j < length (leaves S c (p + size_of S (used (page d k ss))) bs) → Stood (p + size_of S (used (page d k ss))) bs (get_or (leaves S c (p + size_of S (used (page d k ss))) bs) j blank))
          → Stood p (used (page d k ss) ∷ bs) (get_or (cond (eqb c d) (record { at = p; slots = ss } ∷ []) [] ++ leaves S c (p + size_of S (used (page d k ss))) bs) i blank)
      go i (no e) l r = rw (ne_eqb c d e) (stood_behind p (used (page d k ss)) bs (get_or (leaves S c (p + size_of S (used (page d k ss))) bs) i blank) (r i (rw (ne_eqb c d e) at l)))
      go zero (yes e) l r = rw (eq-eqb c d e) (record { pre = []; spare = k; post = bs; blocks = ap (λ (x : ℕ). used (page x k ss) ∷ bs) (sym e); begins = refl })
      go (suc i) (yes e) l r = rw (eq-eqb c d e) (stood_behind p (used (page d k ss)) bs (get_or (leaves S c (p + size_of S (used (page d k ss))) bs) i blank) (r i (let n : suc i < suc (length (leaves S c (p + size_of S (used (page d k ss))) bs)) = rw (eq-eqb c d e) at l in omega (arith, n))))

pub leaf_there : {w : ℕ} (L : Layout) (c i : ℕ) → i < length (leaves (shape w) c (start (shape w)) L.blocks) → PageThere w L (get_or (leaves (shape w) c (start (shape w)) L.blocks) i blank).at c (get_or (leaves (shape w) c (start (shape w)) L.blocks) i blank).slots
leaf_there {w} L c i l =
    let s = leaf_stands (shape w) c (start (shape w)) L.blocks i l in
    record { pre = s.pre; spare = s.spare; post = s.post; passed = record { blocks = s.blocks; begins = s.begins } }

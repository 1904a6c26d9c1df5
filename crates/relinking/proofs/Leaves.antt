-- The pages of a class, and the table of their entries.
use Rattle.std.proofs.Common.{ℕ, suc, ◌+◌, ◌*◌, ◌≤◌, ◌<◌, ◌≡◌, refl, sym, ap, ◌∙◌, Bool, true, false, cond, List, [], ◌∷◌, ◌++◌, append_assoc, append-nil, arith, div-mul-le_self, div-add-mod', mod-lt, length, length-append, eqb}
use Rattle.words.specs.Width.{Width}
use Rattle.words.proofs.WidthLaws.{widths}
use Rattle.model.specs.Shape.{Shape, shape, start, item_size, page_need}
use Rattle.model.specs.Layout.{variable, page, Block, free, used, use_size, size_of, ends}
use Rattle.model.specs.Sound.{Allowed, AllowedUse, AllAllowed}
use Rattle.model.specs.Reading.{held_in}
use Rattle.model.specs.inner.Pages.{least_page}
use Rattle.relinking.specs.Relink.{live_room, entry_of, page_in, live_in, Roomy, Leaf, entries, leaf, leaves}

-- a page has fewer items than an entry has room for
pub live_room_lem : {w : ℕ} → Width w → (c : ℕ) → (shape w).per_page c < live_room
live_room_lem {w} k c = widths (λ w. (shape w).per_page c < live_room) (omega arith) (omega (arith, div-mul-le_self 4096 (8 * c + 16))) w k

-- what an entry says is what was put in it
pub entry_page : (p n : ℕ) → n < live_room → page_in (entry_of p n) ≡ p
entry_page p n l = omega arith

pub entry_live : (p n : ℕ) → n < live_room → live_in (entry_of p n) ≡ n
entry_live p n l = omega arith

least_page_lem : {w : ℕ} → Width w → (c : ℕ) → least_page w ≤ page_need (shape w) c
least_page_lem {w} k c = widths (λ w. least_page w ≤ page_need (shape w) c) (omega arith) (omega (arith, div-add-mod' 4096 (8 * c + 16), mod-lt 4096 {m = 8 * c + 16} (omega arith))) w k

few_pages : {w : ℕ} → Width w → (m p n : ℕ) → m * least_page w ≤ p → p < n * least_page w → m < n
few_pages {w} k m p n = widths (λ w. m * least_page w ≤ p → p < n * least_page w → m < n) (omega arith) (omega arith) w k

entries_append : (xs ys : List Leaf) → entries (xs ++ ys) ≡ entries xs ++ entries ys
unfolding entries
entries_append [] ys = refl
entries_append (x ∷ xs) ys = ap (λ (l : List ℕ). entry_of x.at (held_in x.slots) ∷ l) (entries_append xs ys)

pub length_entries : (xs : List Leaf) → length (entries xs) ≡ length xs
unfolding entries
length_entries [] = refl
length_entries (x ∷ xs) = ap suc (length_entries xs)

module _ (S : Shape) (c : ℕ) where
  leaves_append : (p : ℕ) (xs ys : List Block) → leaves S c p (xs ++ ys) ≡ leaves S c p xs ++ leaves S c (ends S p xs) ys
  unfolding leaves ends
  leaves_append p [] ys = refl
  leaves_append p (b ∷ xs) ys = rw (leaves_append (p + size_of S b) xs ys) (sym (append_assoc (leaf S c p b) _ _))

  -- with one block more
  pub entries_more : (p : ℕ) (xs : List Block) (x : Block) → entries (leaves S c p (xs ++ (x ∷ []))) ≡ entries (leaves S c p xs) ++ entries (leaf S c (ends S p xs) x)
  unfolding leaves
  entries_more p xs x =
      ap entries (leaves_append p xs (x ∷ []) ∙ ap (λ (l : List Leaf). leaves S c p xs ++ l) (append-nil (leaf S c (ends S p xs) x)))
      ∙ entries_append (leaves S c p xs) (leaf S c (ends S p xs) x)

module _ {w : ℕ} (wd : Width w) (c : ℕ) where
  leaf_size : (p : ℕ) (b : Block) → Allowed (shape w) b → length (leaf (shape w) c p b) * least_page w ≤ size_of (shape w) b
  unfolding leaf Allowed AllowedUse size_of use_size
  leaf_size p (free s) a = omega arith
  leaf_size p (used (variable s)) a = omega arith
  leaf_size p (used (page d k ss)) a = go (eqb c d)
    where
      go : (t : Bool) → length {A = Leaf} (cond t (record { at = p; slots = ss } ∷ []) []) * least_page w ≤ 2 * w + length ss * item_size (shape w) d + k
      go true = rw a.1 (omega (arith, least_page_lem wd d))
      go false = omega arith

  leaves_size : (p : ℕ) (bs : List Block) → AllAllowed (shape w) bs → p + length (leaves (shape w) c p bs) * least_page w ≤ ends (shape w) p bs
  unfolding leaves ends AllAllowed
  leaves_size p [] a = omega arith
  leaves_size p (b ∷ bs) a =
      let n : length (leaf (shape w) c p b ++ leaves (shape w) c (p + size_of (shape w) b) bs) ≡ length (leaf (shape w) c p b) + length (leaves (shape w) c (p + size_of (shape w) b) bs) = length-append (leaf (shape w) c p b) (leaves (shape w) c (p + size_of (shape w) b) bs) in
      rw n (omega (arith, leaf_size p b a.0, leaves_size (p + size_of (shape w) b) bs a.1))

  -- so the pages of a heap fit the table
  pub leaves_fit : (p : ℕ) (bs : List Block) → AllAllowed (shape w) bs → ends (shape w) (start (shape w)) bs ≡ p → (n : ℕ) → p < n * least_page w → length (entries (leaves (shape w) c (start (shape w)) bs)) < n
  leaves_fit p bs a e n l = rw (length_entries (leaves (shape w) c (start (shape w)) bs)) (few_pages wd (length (leaves (shape w) c (start (shape w)) bs)) p n (omega (arith, leaves_size (start (shape w)) bs a, e)) l)

pub roomy_same : (w n n' m m' : ℕ) → n' ≡ n → m' ≡ m → Roomy w n m → Roomy w n' m'
roomy_same w n n' m m' e f r = rw (e, f) r

-- the longest table is enough for every heap
pub most_roomy : {w : ℕ} → Width w → (n : ℕ) → n ≤ (shape w).most → Roomy w n 2048
most_roomy {w} wd n = widths (λ w. n ≤ (shape w).most → Roomy w n 2048) (omega arith) (omega arith) w wd

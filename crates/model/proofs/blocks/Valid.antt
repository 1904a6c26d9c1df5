-- A layout stays valid where blocks in its middle are replaced by others of the same extent and with the same free items.
use Rattle.std.proofs.Common.{ℕ, ◌+◌, ◌≤◌, ◌≡◌, refl, sym, ap, ◌∙◌, List, [], ◌∷◌, ◌++◌, append_assoc, arith}
use Rattle.model.specs.Shape.{Shape, start}
use Rattle.model.specs.Layout.{Block, if_free, size_of, ends}
use Rattle.model.specs.Sound.{times, AllAllowed, Apart, idle_in, idle_items, Valid}
use Rattle.model.specs.inner.Walks.{ends_free}
use Rattle.model.proofs.blocks.Blocks.{ends_append, allowed_append, allowed_left, allowed_right}
use Rattle.model.proofs.blocks.Replace.{three}
use Rattle.model.specs.inner.Laid.{Tiled}
use Rattle.model.proofs.pictures.Drawn.{tiled, valid}

pub ends_free_append : (d : ℕ) (xs ys : List Block) → ends_free d (xs ++ ys) ≡ ends_free (ends_free d xs) ys
unfolding ends_free
ends_free_append d [] ys = refl
ends_free_append d (b ∷ xs) ys = ends_free_append (if_free b 1 0) xs ys

pub apart_append : (d : ℕ) (xs ys : List Block) → Apart d xs → Apart (ends_free d xs) ys → Apart d (xs ++ ys)
unfolding Apart ends_free
apart_append d [] ys h k = k
apart_append d (b ∷ xs) ys h k = (h.0, apart_append (if_free b 1 0) xs ys h.1 k)

pub apart_left : (d : ℕ) (xs ys : List Block) → Apart d (xs ++ ys) → Apart d xs
unfolding Apart
apart_left d [] ys h = tt
apart_left d (b ∷ xs) ys h = (h.0, apart_left (if_free b 1 0) xs ys h.1)

pub apart_right : (d : ℕ) (xs ys : List Block) → Apart d (xs ++ ys) → Apart (ends_free d xs) ys
unfolding Apart ends_free
apart_right d [] ys h = h
apart_right d (b ∷ xs) ys h = apart_right (if_free b 1 0) xs ys h.1

pub apart_down : (d e : ℕ) (xs : List Block) → e ≤ d → Apart d xs → Apart e xs
unfolding Apart
apart_down d e [] h k = tt
apart_down d e (b ∷ xs) h k = (omega (arith, k.0), k.1)

module _ (S : Shape) where
  pub items_append : (c p : ℕ) (xs ys : List Block) → idle_items S c p (xs ++ ys) ≡ idle_items S c p xs ++ idle_items S c (ends S p xs) ys
  unfolding idle_items ends
  items_append c p [] ys = refl
  items_append c p (b ∷ xs) ys = rw (items_append c (p + size_of S b) xs ys) (sym (append_assoc (idle_in S c p b) _ _))

  -- blocks in the middle become others, of the same extent, that touch no free block
  pub replaced_tiled : (end : ℕ) (ls : List (List ℕ)) (pre old mid post : List Block) → Tiled S end (three S ls pre old post) → AllAllowed S mid
      → ends S (ends S (start S) pre) mid ≡ ends S (ends S (start S) pre) old
      → (Apart (ends_free 0 pre) (old ++ post) → Apart (ends_free 0 pre) (mid ++ post))
      → Tiled S end (three S ls pre mid post)
  replaced_tiled end ls pre old mid post v a e n =
      let p = ends S (start S) pre in
      record {
        fills = ends_append S (start S) pre (mid ++ post) ∙ ends_append S p mid post ∙ ap (λ (x : ℕ). ends S x post) e ∙ sym (ends_append S p old post) ∙ sym (ends_append S (start S) pre (old ++ post)) ∙ v.fills;
        allowed = allowed_append S pre (mid ++ post) (allowed_left S pre (old ++ post) v.allowed) (allowed_append S mid post a (allowed_right S old post (allowed_right S pre (old ++ post) v.allowed)));
        apart = apart_append 0 pre (mid ++ post) (apart_left 0 pre (old ++ post) v.apart) (n (apart_right 0 pre (old ++ post) v.apart));
        classes = v.classes;
        below = v.below;
      }

  -- and have the same free items
  pub replaced_valid_at : (end : ℕ) (ls : List (List ℕ)) (pre old mid post : List Block) → Valid S end (three S ls pre old post) → AllAllowed S mid
      → ends S (ends S (start S) pre) mid ≡ ends S (ends S (start S) pre) old
      → (Apart (ends_free 0 pre) (old ++ post) → Apart (ends_free 0 pre) (mid ++ post))
      → ((c : ℕ) → idle_items S c (ends S (start S) pre) mid ≡ idle_items S c (ends S (start S) pre) old)
      → Valid S end (three S ls pre mid post)
  replaced_valid_at end ls pre old mid post v a e n i =
      let p = ends S (start S) pre in
      valid S (replaced_tiled end ls pre old mid post (tiled S v) a e n)
      (λ c o h. v.listed c o h ∙ ap (λ (l : List ℕ). times o l)
      (items_append c (start S) pre (old ++ post) ∙ ap (λ (l : List ℕ). idle_items S c (start S) pre ++ l)
      (items_append c p old post ∙ ap (λ (l : List ℕ). l ++ idle_items S c (ends S p old) post) (sym (i c)) ∙ ap (λ (x : ℕ). idle_items S c p mid ++ idle_items S c x post) (sym e) ∙ sym (items_append c p mid post))
      ∙ sym (items_append c (start S) pre (mid ++ post))))

  pub replaced_valid : (end : ℕ) (ls : List (List ℕ)) (pre old mid post : List Block) → Valid S end (three S ls pre old post) → AllAllowed S mid
      → ends S (ends S (start S) pre) mid ≡ ends S (ends S (start S) pre) old
      → ((d : ℕ) → Apart d (old ++ post) → Apart d (mid ++ post))
      → ((c : ℕ) → idle_items S c (ends S (start S) pre) mid ≡ idle_items S c (ends S (start S) pre) old)
      → Valid S end (three S ls pre mid post)
  replaced_valid end ls pre old mid post v a e n i = replaced_valid_at end ls pre old mid post v a e (n (ends_free 0 pre)) i

-- Resize in place: a block stays as it is, loses its tail, or grows over a free right neighbour.
use Rattle.std.proofs.Common.{ℕ, ◌+◌, ◌-◌, ◌%◌, ◌≤◌, ◌<◌, ◌≡◌, refl, sym, ap, subst, ◌∙◌, List, [], ◌∷◌, ◌++◌, arith, le-leb, lt-ltb, le-ltb, eq-eqb, ne_eqb}
use Rattle.std.proofs.Math.Option.{none, some}
use Rattle.std.proofs.Math.Decide.{dec_le, dec_lt}
use Rattle.std.proofs.lemmas.Bool.{lt-leb}
use Rattle.model.specs.Shape.{Shape, start, tags, least_free, largest_item, least_variable, class_of, need_of}
use Rattle.model.specs.Layout.{variable, Block, free, used, Layout, use_size, size_of, ends}
use Rattle.model.specs.Sound.{Allowed, AllowedUse, AllAllowed, Apart, idle_in, idle_items, Valid}
use Rattle.model.specs.Rules.{Spot, block, thing, before, as_variable, cut, shrunk, grown, reshaped, renewed, stays}
use Rattle.model.proofs.blocks.Blocks.{allowed_left, allowed_right}
use Rattle.model.proofs.blocks.Replace.{three}
use Rattle.model.proofs.blocks.Valid.{apart_down, replaced_valid_at}
use Rattle.model.proofs.blocks.Taken.{Takes, parts, takes_of, takes_eight}
use Rattle.model.specs.inner.Links.{takes}
use Rattle.model.proofs.Good.{Good}
use Rattle.model.proofs.blocks.Releasing.{Side, nobody, neighbour, before_apart}
use Rattle.model.proofs.Sizes.{up_above, need_eight}

module _ (S : Shape) where
  -- an item stays exactly where its class is the size's
  pub item_stays : (n o c k : ℕ) (L : Layout) → class_of n ≡ c → stays S n (thing o c k) L ≡ some (renewed S n o L)
  unfolding stays
  item_stays n o c k L e = rw (eq-eqb (class_of n) c e) refl

  pub item_moves : (n o c k : ℕ) (L : Layout) → (class_of n ≡ c → ⊥) → stays S n (thing o c k) L ≡ none
  unfolding stays
  item_moves n o c k L e = rw (ne_eqb (class_of n) c e) refl

  -- a block never stays for the size of an item
  pub small_moves : (n : ℕ) (t : Spot) (L : Layout) → n ≤ largest_item S → stays S n (block t) L ≡ none
  unfolding stays
  small_moves n t L l = rw (le-leb n (largest_item S) l) refl

  -- a free tail joined to what stands right behind it
  joined_tail : (k : ℕ) (rights post : List Block) (r : ℕ) → Side rights r → Apart 1 post → before (free k) (rights ++ post) ≡ free (k + r) ∷ post
  unfolding before
  joined_tail k rights post r nobody a = before_apart (free k) post a ∙ ap (λ (x : ℕ). free x ∷ post) (omega arith)
  joined_tail k rights post r (neighbour s) a = refl

  -- a block and what stands right behind it: their extent, that they hold no free item, and that they take a multiple of 8 bytes
  pub both_ends : (s p r : ℕ) {rights : List Block} → Side rights r → ends S p (used (variable s) ∷ rights) ≡ p + (s + r)
  unfolding ends size_of use_size
  both_ends s p r nobody = omega arith
  both_ends s p r (neighbour k) = omega arith

  both_idle : (c s p r : ℕ) {rights : List Block} → Side rights r → idle_items S c p (used (variable s) ∷ rights) ≡ []
  unfolding idle_items idle_in
  both_idle c s p r nobody = refl
  both_idle c s p r (neighbour k) = refl

  both_eight : (s r : ℕ) {rights : List Block} → Side rights r → AllAllowed S (used (variable s) ∷ rights) → (s + r) % 8 ≡ 0
  unfolding AllAllowed Allowed AllowedUse
  both_eight s r nobody a = omega (arith, a.0.1)
  both_eight s r (neighbour k) a = omega (arith, a.0.1, a.1.0.1)

  -- a block with what stands right behind it, and a size above the largest item's
  module _ (n : ℕ) (L : Layout) (t : Spot) (rights post : List Block) (r : ℕ) (side : Side rights r) (post_is : t.post ≡ rights ++ post) (clear : Apart 1 post) (big : largest_item S < n) where
    -- what the block takes of both
    abbrev pub taken : ℕ
    taken = takes S (need_of S n) (t.size + r)

    -- the layout with it
    abbrev pub resized_in : Layout
    resized_in = three S L.lists t.pre (parts S taken (t.size + r) (variable taken)) post

    pub stays_same : need_of S n ≤ t.size → t.size < need_of S n + least_free S → stays S n (block t) L ≡ some (record { blocks = t.pre ++ (as_variable S t.size ∷ t.post); lists = L.lists })
    unfolding stays shrunk reshaped
    stays_same l m = rw (lt-leb n (largest_item S) big, le-leb (need_of S n) t.size l, lt-leb (need_of S n + least_free S) t.size m) refl

    pub stays_cut : need_of S n + least_free S ≤ t.size → Good S → stays S n (block t) L ≡ some resized_in
    unfolding stays shrunk reshaped
    stays_cut l good =
        let e : t.size - need_of S n + r ≡ t.size + r - need_of S n = omega arith in
        rw (lt-leb n (largest_item S) big, le-leb (need_of S n) t.size (omega arith), le-leb (need_of S n + least_free S) t.size l, post_is, joined_tail (t.size - need_of S n) rights post r side clear, le-leb (need_of S n + least_free S) (t.size + r) (omega arith), lt-ltb (need_of S n) (t.size + r) (omega arith), e)
        refl

    -- the rule's cut of both together
    cut_parts : (k : ℕ) → Good S → cut S (need_of S n) (as_variable S) k post ≡ parts S (takes S (need_of S n) k) k (variable (takes S (need_of S n) k)) ++ post
    unfolding cut
    cut_parts k good = go (dec_le (need_of S n + least_free S) k)
      where
        go : Dec (need_of S n + least_free S ≤ k) → cut S (need_of S n) (as_variable S) k post ≡ parts S (takes S (need_of S n) k) k (variable (takes S (need_of S n) k)) ++ post
        go (yes e) = rw (le-leb (need_of S n + least_free S) k e, lt-ltb (need_of S n) k (omega arith)) refl
        go (no e) = rw (lt-leb (need_of S n + least_free S) k (omega arith), le-ltb k k (omega arith)) refl

    pub stays_grown : t.size < need_of S n → need_of S n ≤ t.size + r → Good S → stays S n (block t) L ≡ some resized_in
    unfolding stays grown reshaped
    stays_grown l m good = rw (lt-leb n (largest_item S) big, lt-leb (need_of S n) t.size l) (go side post_is m)
      where
        go : {rs : List Block} {k : ℕ} → Side rs k → t.post ≡ rs ++ post → need_of S n ≤ t.size + k
            → reshaped S (need_of S n) t L (grown S (need_of S n) t.size t.post) ≡ some (three S L.lists t.pre (parts S (takes S (need_of S n) (t.size + k)) (t.size + k) (variable (takes S (need_of S n) (t.size + k)))) post)
        go nobody e j = absurd (omega arith)
        go (neighbour k) e j = rw (e, le-leb (need_of S n) (t.size + k) j, cut_parts (t.size + k) good) refl

    pub stays_none : t.size + r < need_of S n → stays S n (block t) L ≡ none
    unfolding stays grown reshaped Apart
    stays_none l = rw (lt-leb n (largest_item S) big, lt-leb (need_of S n) t.size (omega arith)) (go side post post_is clear l)
      where
        go : {rs : List Block} {k : ℕ} → Side rs k → (ps : List Block) → t.post ≡ rs ++ ps → Apart 1 ps → t.size + k < need_of S n
            → reshaped S (need_of S n) t L (grown S (need_of S n) t.size t.post) ≡ none
        go nobody [] e a j = rw e refl
        go nobody (free k ∷ ps) e a j = absurd (omega (arith, a.0))
        go nobody (used k ∷ ps) e a j = rw e refl
        go (neighbour k) ps e a j = rw (e, lt-leb (need_of S n) (t.size + k) j) refl

    -- the two blocks, as they stand
    abbrev pub both : List Block
    both = used (variable t.size) ∷ rights

    pub both_blocks : L.blocks ≡ t.pre ++ ((used (variable t.size) ∷ []) ++ t.post) → L.blocks ≡ t.pre ++ (both ++ post)
    both_blocks e = e ∙ ap (λ (l : List Block). t.pre ++ (used (variable t.size) ∷ l)) post_is

    -- THE LAW: the layout with the block resized is valid
    module _ (end : ℕ) (good : Good S) (room : need_of S n ≤ t.size + r) (v : Valid S end L) (bl : L.blocks ≡ t.pre ++ ((used (variable t.size) ∷ []) ++ t.post)) where
      was : Valid S end (three S L.lists t.pre both post)
      was = subst (λ (l : List Block). Valid S end (record { blocks = l; lists = L.lists })) (both_blocks bl) v

      pub resized_valid : Valid S end resized_in
      unfolding AllAllowed Allowed AllowedUse Apart ends size_of use_size idle_items idle_in
      resized_valid = go (dec_lt taken (t.size + r))
        where
          k : Takes S (need_of S n) (t.size + r) taken
          k = takes_of S (need_of S n) (t.size + r) room

          eight : taken % 8 ≡ 0
          eight = takes_eight S (need_of S n) (t.size + r) (need_eight n (tags S) good.tags) (both_eight t.size r side (allowed_left S both post (allowed_right S t.pre (both ++ post) was.allowed)))

          large : least_variable S ≤ taken
          large = omega (arith, k.enough, up_above S.offered n big)

          go : Dec (taken < t.size + r) → Valid S end resized_in
          go (yes l) =
              rw (lt-ltb taken (t.size + r) l)
              (replaced_valid_at S end L.lists t.pre both (used (variable taken) ∷ free (t.size + r - taken) ∷ []) post was
              ((large, eight), ((omega (arith, k.rest l), omega (arith, eight, both_eight t.size r side (allowed_left S both post (allowed_right S t.pre (both ++ post) was.allowed)))), tt))
              (omega (arith, both_ends t.size (ends S (start S) t.pre) r side)) (λ h. (h.0, (omega arith, clear))) (λ c. sym (both_idle c t.size (ends S (start S) t.pre) r side)))
          go (no l) =
              rw (le-ltb taken (t.size + r) (omega arith))
              (replaced_valid_at S end L.lists t.pre both (used (variable taken) ∷ []) post was ((large, eight), tt)
              (omega (arith, both_ends t.size (ends S (start S) t.pre) r side, k.within)) (λ h. (h.0, apart_down 1 0 post (omega arith) clear)) (λ c. sym (both_idle c t.size (ends S (start S) t.pre) r side)))

-- Blocks in the middle of a heap, as code meets them: what can be read around them, and what writing others in their place gives.
use Rattle.std.proofs.Common.{ℕ, ◌+◌, ◌-◌, ◌*◌, ◌≤◌, ◌<◌, ◌≡◌, refl, sym, ap, subst, ◌∙◌, List, [], ◌∷◌, ◌++◌, ◌⊎◌, inl, inr, ⊎_elim, arith, length, eq-eqb, ne_eqb}
use Rattle.std.proofs.Math.Decide.{ℕ_discrete}
use Rattle.words.specs.Word.{word_at, Bytes}
use Rattle.model.specs.Shape.{Shape, start, end_of}
use Rattle.model.specs.Parts.{first_free_at}
use Rattle.model.specs.Picture.{Word, Shows, draw}
use Rattle.model.specs.Layout.{Block, free, used, Layout, use_size, size_of, ends, first_free, use_words, own, block_words, fixed_low, fixed_high, words}
use Rattle.model.specs.Sound.{Allowed, AllAllowed, Here}
use Rattle.model.proofs.pictures.Pictures.{shows_left, shows_right, draw_append}
use Rattle.model.proofs.blocks.Blocks.{link_at, back_words, ends_append, le_ends, allowed_left, allowed_right, first_below}
use Rattle.model.specs.inner.Walks.{last_free}
use Rattle.model.specs.inner.Links.{link_of, back_of, put_if}
use Rattle.model.specs.inner.Laid.{Tiled}
use Rattle.model.proofs.Good.{Good}
use Rattle.model.proofs.blocks.Links.{link_range}
use Rattle.model.proofs.blocks.Replace.{front, three, Places, words_parts}
use Rattle.model.proofs.blocks.Remade.{remade}
use Rattle.model.proofs.pictures.Drawn.{tiled}

module _ (S : Shape) where
  -- the blocks `old` stand from p to q, with the free block before them at prev and the one behind them at next, 0 where there is none
  pub record Middle (b : List ℕ) (end : ℕ) (ls : List (List ℕ)) (pre old post : List Block) (p q prev next : ℕ) : Type 0 where
    pub shown : Shows S.word b (words S end (three S ls pre old post))
    pub allowed : AllAllowed S (pre ++ (old ++ post))
    pub fills : ends S (start S) (pre ++ (old ++ post)) ≡ end
    pub inside : end ≤ length b
    pub places : Places S pre old post p q prev next

  pub middle_in : (b : List ℕ) (L : Layout) (pre old post : List Block) (p q prev next : ℕ) → Tiled S (end_of (length b)) L → Shows S.word b (words S (end_of (length b)) L)
      → L.blocks ≡ pre ++ (old ++ post) → Places S pre old post p q prev next → Middle b (end_of (length b)) L.lists pre old post p q prev next
  middle_in b L pre old post p q prev next t s e f =
      record {
        shown = subst (λ (bs : List Block). Shows S.word b (words S (end_of (length b)) (record { blocks = bs; lists = L.lists }))) e s;
        allowed = subst (λ (bs : List Block). AllAllowed S bs) e t.allowed;
        fills = subst (λ (bs : List Block). ends S (start S) bs ≡ end_of (length b)) e t.fills;
        inside = omega arith;
        places = f;
      }

  pub middle_at : (b : List ℕ) (L : Layout) (pre old post : List Block) (p q prev next : ℕ) → Here S b L → L.blocks ≡ pre ++ (old ++ post) → Places S pre old post p q prev next
      → Middle b (end_of (length b)) L.lists pre old post p q prev next
  middle_at b L pre old post p q prev next h e f = middle_in b L pre old post p q prev next (tiled S h.valid) h.shown e f

  pub middle_of : (b : List ℕ) (L : Layout) (pre old post : List Block) (p : ℕ) → Here S b L → L.blocks ≡ pre ++ (old ++ post) → ends S (start S) pre ≡ p
      → Middle b (end_of (length b)) L.lists pre old post p (ends S p old) (last_free S (start S) pre 0) (first_free S (ends S p old) post 0)
  middle_of b L pre old post p h e f =
      middle_at b L pre old post p (ends S p old) (last_free S (start S) pre 0) (first_free S (ends S p old) post 0) h e (record { begins = f; finishes = refl; before = refl; behind = refl })

  link_of_lem : (p : ℕ) (bs : List Block) (x : ℕ) → 0 < p → link_of S (last_free S p bs x) ≡ link_at S p bs (link_of S x)
  unfolding last_free link_at
  link_of_lem p [] x h = refl
  link_of_lem p (free s ∷ bs) x h = link_of_lem (p + size_of S (free s)) bs p (omega arith) ∙ rw (ne_eqb p 0 (λ e. omega arith)) refl
  link_of_lem p (used u ∷ bs) x h = link_of_lem (p + size_of S (used u)) bs x (omega arith)

  -- the link to what comes behind `pre` stands in its last free block, or in the header
  pub link_place : (pre : List Block) (prev : ℕ) → last_free S (start S) pre 0 ≡ prev → link_of S prev ≡ link_at S (start S) pre (first_free_at S)
  link_place pre prev e = ap (λ (x : ℕ). link_of S x) (sym e) ∙ link_of_lem (start S) pre 0 (omega arith)

  -- the link to what comes after blocks, read
  link_read : (ls : List (List ℕ)) (b : List ℕ) (p prev next : ℕ) (bs : List Block) (d : ℕ) → word_at S.word b d ≡ first_free S p bs next → Shows S.word b (block_words S ls p prev next bs)
      → word_at S.word b (link_at S p bs d) ≡ next
  unfolding first_free link_at block_words own Shows
  link_read ls b p prev next [] d e s = e
  link_read ls b p prev next (free t ∷ bs) d e s =
      link_read ls b (p + size_of S (free t)) p next bs (p + S.word) s.1.0
      (shows_right S.word b (own S ls p prev (first_free S (p + size_of S (free t)) bs next) (free t)) (block_words S ls (p + size_of S (free t)) p next bs) s)
  link_read ls b p prev next (used u ∷ bs) d e s =
      link_read ls b (p + size_of S (used u)) prev next bs d e (shows_right S.word b (use_words S ls p u) (block_words S ls (p + size_of S (used u)) prev next bs) s)

  -- the link back, drawn
  back_draw : (ls : List (List ℕ)) (p prev v : ℕ) (bs : List Block) (b c : List ℕ) → 0 < p → AllAllowed S bs → Good S → Shows S.word b (block_words S ls p prev 0 bs)
      → put_if S c (back_of S b (first_free S p bs 0)) v ≡ draw S.word (back_words S p bs v) c
  unfolding first_free back_words draw block_words own AllAllowed Allowed size_of Shows
  back_draw ls p prev v [] b c h a k s = refl
  back_draw ls p prev v (free t ∷ bs) b c h a k s = rw (ne_eqb p 0 (λ e. omega arith), s.0, ne_eqb (p + t - 2 * S.word) 0 (λ e. omega (arith, a.0.0)))
  back_draw ls p prev v (used u ∷ bs) b c h a k s =
      back_draw ls (p + use_size S u) prev v bs b c (omega arith) a.1 k (shows_right S.word b (use_words S ls p u) (block_words S ls (p + use_size S u) prev 0 bs) s)

  -- the first free block of some: its size, and that it is within them
  pub record FreeAt (b : List ℕ) (lo hi p : ℕ) : Type 0 where
    pub low : lo ≤ p
    pub least : 4 * S.word ≤ word_at S.word b p
    pub high : p + word_at S.word b p ≤ hi

  first_in : (ls : List (List ℕ)) (p prev : ℕ) (bs : List Block) (b : List ℕ) → AllAllowed S bs → Shows S.word b (block_words S ls p prev 0 bs)
      → (first_free S p bs 0 ≡ 0) ⊎ FreeAt b p (ends S p bs) (first_free S p bs 0)
  unfolding first_free block_words own AllAllowed Allowed size_of Shows ends
  first_in ls p prev [] b a s = inl refl
  first_in ls p prev (free t ∷ bs) b a s = inr (record { low = omega arith; least = omega (arith, a.0.0, s.0); high = omega (arith, s.0, le_ends S (p + t) bs) })
  first_in ls p prev (used u ∷ bs) b a s =
      ⊎_elim (λ e. inl e) (λ e. inr (record { low = omega (arith, e.low); least = e.least; high = e.high }))
      (first_in ls (p + use_size S u) prev bs b a.1 (shows_right S.word b (use_words S ls p u) (block_words S ls (p + use_size S u) prev 0 bs) s))

  module _ {b : List ℕ} {end : ℕ} {ls : List (List ℕ)} {pre old post : List Block} {p q prev next : ℕ} (m : Middle b end ls pre old post p q prev next) where
    pub all_pre : AllAllowed S pre
    all_pre = allowed_left S pre (old ++ post) m.allowed

    pub all_old : AllAllowed S old
    all_old = allowed_left S old post (allowed_right S pre (old ++ post) m.allowed)

    pub all_post : AllAllowed S post
    all_post = allowed_right S old post (allowed_right S pre (old ++ post) m.allowed)

    ends_post : ends S q post ≡ end
    ends_post =
        ap (λ (x : ℕ). ends S x post) (sym m.places.finishes) ∙ sym (ends_append S p old post)
        ∙ ap (λ (x : ℕ). ends S x (old ++ post)) (sym m.places.begins) ∙ sym (ends_append S (start S) pre (old ++ post)) ∙ m.fills

    pub start_le : start S ≤ p
    start_le = omega (arith, m.places.begins, le_ends S (start S) pre)

    pub middle_le : p ≤ q
    middle_le = omega (arith, m.places.finishes, le_ends S p old)

    pub end_le : q ≤ end
    end_le = omega (arith, ends_post, le_ends S q post)

    -- what the blocks, and those behind them, show
    rest_shown : Shows S.word b (block_words S ls p prev next old ++ block_words S ls q (last_free S p old prev) 0 post)
    rest_shown =
        shows_right S.word b (front S end ls pre (first_free S p old next)) (block_words S ls p prev next old ++ block_words S ls q (last_free S p old prev) 0 post)
        (rw (words_parts S end ls pre old post p q prev next m.places) at m.shown)

    pub old_shown : Shows S.word b (block_words S ls p prev next old)
    old_shown = shows_left S.word b (block_words S ls p prev next old) (block_words S ls q (last_free S p old prev) 0 post) rest_shown

    pub post_shown : Shows S.word b (block_words S ls q (last_free S p old prev) 0 post)
    post_shown = shows_right S.word b (block_words S ls p prev next old) (block_words S ls q (last_free S p old prev) 0 post) rest_shown

    link_is : link_of S prev ≡ link_at S (start S) pre (first_free_at S)
    link_is = link_place pre prev m.places.before

    -- what the link to the blocks says
    pub link_shown : word_at S.word b (link_of S prev) ≡ first_free S p old next
    unfolding front Shows
    link_shown =
        let parts = rw (words_parts S end ls pre old post p q prev next m.places) at m.shown in
        let f = shows_left S.word b (front S end ls pre (first_free S p old next)) (block_words S ls p prev next old ++ block_words S ls q (last_free S p old prev) 0 post) parts in
        let rest = shows_right S.word b (fixed_low S) (record { at = first_free_at S; is = first_free S (start S) pre (first_free S p old next) } ∷ (fixed_high S end ls ++ block_words S ls (start S) 0 (first_free S p old next) pre)) f in
        ap (λ (x : ℕ). word_at S.word b x) link_is
        ∙ link_read ls b (start S) 0 (first_free S p old next) pre (first_free_at S) rest.0
        (shows_right S.word b (fixed_high S end ls) (block_words S ls (start S) 0 (first_free S p old next) pre) rest.1)

    -- the link to the blocks stands before them
    pub link_in : link_of S prev + S.word ≤ p
    link_in = rw link_is (⊎_elim (λ e. omega (arith, start_le)) (λ e. omega (arith, e.1, m.places.begins)) (link_range S (start S) pre (first_free_at S) all_pre))

    pub prev_in : prev + S.word ≤ p
    prev_in = near (ℕ_discrete prev 0) link_in
      where
        near : Dec (prev ≡ 0) → link_of S prev + S.word ≤ p → prev + S.word ≤ p
        near (yes e) h = omega (arith, start_le)
        near (no e) h = omega (arith, rw (ne_eqb prev 0 e) at h)

    -- the free block behind them has its link back within the heap
    pub next_in_lem : (next ≡ 0) ⊎ FreeAt b q end next
    next_in_lem =
        subst (λ (x : ℕ). (x ≡ 0) ⊎ FreeAt b q end x) m.places.behind
        (subst (λ (y : ℕ). (first_free S q post 0 ≡ 0) ⊎ FreeAt b q y (first_free S q post 0)) ends_post (first_in ls q (last_free S p old prev) post b all_post post_shown))

    pub back_in : p < q → back_of S b next + S.word ≤ end
    back_in l = go next_in_lem (ℕ_discrete next 0)
      where
        go : (next ≡ 0) ⊎ FreeAt b q end next → Dec (next ≡ 0) → back_of S b next + S.word ≤ end
        go r (yes e) = rw (eq-eqb next 0 e) (omega (arith, start_le, end_le))
        go (inl e) (no n) = absurd (n e)
        go (inr e) (no n) = rw (ne_eqb next 0 n) (omega (arith, e.least, e.high))

    pub first_le : (mid : List Block) → ends S p mid ≡ q → first_free S p mid next ≤ end
    first_le mid e = first_below S end p mid next (omega (arith, end_le)) next_le
      where
        next_le : next ≤ end
        next_le = ⊎_elim (λ z. omega arith) (λ z. omega (arith, z.high)) next_in_lem

    -- THE LAW: other blocks written in their place, and the two links, draw the layout with these
    pub rewritten : (mid : List Block) → ends S p mid ≡ q → Good S → Bytes b → end ≤ S.most → Tiled S end (three S ls pre mid post)
        → put_if S (draw S.word (record { at = link_of S prev; is = first_free S p mid next } ∷ block_words S ls p prev next mid) b) (back_of S b next) (last_free S p mid prev)
        ≡ draw S.word (words S end (three S ls pre mid post)) b
    rewritten mid f good bytes short will =
        let ws : List Word = record { at = link_of S prev; is = first_free S p mid next } ∷ block_words S ls p prev next mid in
        let back : put_if S (draw S.word ws b) (back_of S b next) (last_free S p mid prev) ≡ draw S.word (back_words S q post (last_free S p mid prev)) (draw S.word ws b) =
        ap (λ (x : ℕ). put_if S (draw S.word ws b) (back_of S b x) (last_free S p mid prev)) (sym m.places.behind)
        ∙ back_draw ls q (last_free S p old prev) (last_free S p mid prev) post b (draw S.word ws b) (omega (arith, start_le, middle_le)) all_post good post_shown in
        back
        ∙ sym (draw_append S.word ws (back_words S q post (last_free S p mid prev)) b)
        ∙ rw link_is (remade S end ls pre old mid post p q prev next good b bytes m.inside short all_old will m.places f m.shown)

  -- one free block in the middle: what its words say
  pub record FreeRead (b : List ℕ) (p s prev next : ℕ) : Type 0 where
    pub least : 4 * S.word ≤ s
    pub size : word_at S.word b p ≡ s
    pub next_is : word_at S.word b (p + S.word) ≡ next
    pub prev_is : word_at S.word b (p + s - 2 * S.word) ≡ prev

  pub free_read : {b : List ℕ} {end : ℕ} {ls : List (List ℕ)} {pre post : List Block} {p q prev next s : ℕ} → Middle b end ls pre (free s ∷ []) post p q prev next → FreeRead b p s prev next
  unfolding block_words own first_free Shows AllAllowed Allowed
  free_read m = let w = old_shown m in record { least = (all_old m).0.0; size = w.0; next_is = w.1.0; prev_is = w.1.1.0 }

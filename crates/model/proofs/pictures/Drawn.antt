-- A valid layout, drawn over bytes, is shown by them: so a call that draws a valid layout leaves a sound heap.
use Rattle.std.proofs.Common.{ℕ, suc, ◌+◌, ◌-◌, ◌*◌, ◌≤◌, ◌<◌, ◌≡◌, refl, ap, ◌∙◌, cond, List, [], ◌∷◌, ◌++◌, ◌⊎◌, inl, inr, ⊎_elim, arith, length, get_or, eqb, eq-eqb, ne_eqb}
use Rattle.std.proofs.Math.Decide.{ℕ_discrete, dec_le, dec_lt}
use Rattle.std.proofs.Math.ListN.{get_or-eq_default}
use Rattle.words.specs.Word.{word_at, Bytes}
use Rattle.words.proofs.WordLaws.{word_agree}
use Rattle.model.specs.Picture.{Shows, draw}
use Rattle.model.proofs.Good.{Good}
use Rattle.model.proofs.pictures.Pictures.{Rise, Fit, fit_append, rise_outside, draw_out, draw_shows, drawn, length_draw}
use Rattle.model.specs.Shape.{Shape, start, index, offset_of, tags, item_size, end_of}
use Rattle.model.specs.Layout.{Slot, idle, held, Use, variable, page, Block, free, used, Layout, head_of, next_of, use_size, size_of, ends, header, slot_words, use_words, own, block_words, head_words, fixed_low, fixed_high, words}
use Rattle.model.proofs.blocks.Blocks.{le_ends, first_below}
use Rattle.model.specs.Sound.{times, AllWithin, Allowed, AllowedUse, AllAllowed, idle_slots, idle_in, idle_items, Valid, Here}
use Rattle.model.specs.inner.Laid.{Tiled}
use Rattle.model.proofs.blocks.Replace.{front, rise_front}
use Rattle.model.proofs.items.Asked.{held_fits}

-- how often o stands in two lists
pub times_append : (o : ℕ) (xs ys : List ℕ) → times o (xs ++ ys) ≡ times o xs + times o ys
unfolding times
times_append o [] ys = omega arith
times_append o (x ∷ xs) ys = omega (arith, times_append o xs ys)

-- the number that a list gives is 0 or one of its own
pub head_of_lem : (l : List ℕ) → (head_of l ≡ 0) ⊎ (1 ≤ times (head_of l) l)
unfolding head_of times
head_of_lem [] = inl refl
head_of_lem (x ∷ xs) = inr (rw (eq-eqb x x refl) (omega arith))

pub next_of_lem : (o : ℕ) (l : List ℕ) → (next_of o l ≡ 0) ⊎ (1 ≤ times (next_of o l) l)
unfolding next_of times
next_of_lem o [] = inl refl
next_of_lem o (x ∷ xs) = go (ℕ_discrete o x) (next_of_lem o xs)
  where
    go : Dec (o ≡ x) → (next_of o xs ≡ 0) ⊎ (1 ≤ times (next_of o xs) xs)
        → (cond (eqb o x) (head_of xs) (next_of o xs) ≡ 0) ⊎ (1 ≤ cond (eqb (cond (eqb o x) (head_of xs) (next_of o xs)) x) 1 0 + times (cond (eqb o x) (head_of xs) (next_of o xs)) xs)
    go (yes e) r = rw (eq-eqb o x e) (⊎_elim (λ k. inl k) (λ k. inr (omega (arith, k))) (head_of_lem xs))
    go (no e) r = rw (ne_eqb o x e) (⊎_elim (λ k. inl k) (λ k. inr (omega (arith, k))) r)

module _ (S : Shape) where
  -- the offsets of free items are below where their blocks end
  slot_below : (c o p : ℕ) (ss : List Slot) (hi : ℕ) → 1 ≤ times o (idle_slots S c p ss) → p + length ss * item_size S c ≤ hi → o ≤ hi
  unfolding idle_slots times
  slot_below c o p [] hi h k = absurd (omega arith)
  slot_below c o p (held n ∷ ss) hi h k = slot_below c o (p + item_size S c) ss hi h (omega arith)
  slot_below c o p (idle ∷ ss) hi h k = go (ℕ_discrete o (offset_of S p)) (slot_below c o (p + item_size S c) ss hi)
    where
      go : Dec (o ≡ offset_of S p) → (1 ≤ times o (idle_slots S c (p + item_size S c) ss) → p + item_size S c + length ss * item_size S c ≤ hi → o ≤ hi) → o ≤ hi
      go (yes e) r = omega arith
      go (no e) r = r (omega (arith, rw (ne_eqb o (offset_of S p) e) at h)) (omega arith)

  in_below : (c o p : ℕ) (b : Block) → 1 ≤ times o (idle_in S c p b) → o ≤ p + size_of S b
  unfolding idle_in size_of use_size times
  in_below c o p (free s) h = absurd (omega arith)
  in_below c o p (used (variable s)) h = absurd (omega arith)
  in_below c o p (used (page d k ss)) h = go (ℕ_discrete c d)
    where
      go : Dec (c ≡ d) → o ≤ p + (tags S + length ss * item_size S d + k)
      go (yes e) = slot_below d o (p + S.word) ss (p + (tags S + length ss * item_size S d + k)) (rw (eq-eqb c d e) at h) (omega arith)
      go (no e) = absurd (omega (arith, rw (ne_eqb c d e) at h))

  pub item_below : (c o p : ℕ) (bs : List Block) → 1 ≤ times o (idle_items S c p bs) → o ≤ ends S p bs
  unfolding idle_items ends
  item_below c o p [] h = absurd (unfold times in omega arith)
  item_below c o p (b ∷ bs) h = go (dec_le 1 (times o (idle_in S c p b))) (item_below c o (p + size_of S b) bs)
    where
      go : Dec (1 ≤ times o (idle_in S c p b)) → (1 ≤ times o (idle_items S c (p + size_of S b) bs) → o ≤ ends S (p + size_of S b) bs) → o ≤ ends S (p + size_of S b) bs
      go (yes e) r = omega (arith, in_below c o p b e, le_ends S (p + size_of S b) bs)
      go (no e) r = r (omega (arith, times_append o (idle_in S c p b) (idle_items S c (p + size_of S b) bs)))

  -- a valid layout's lists name offsets within the heap
  pub tiled : {end : ℕ} {L : Layout} → Valid S end L → Tiled S end L
  tiled {end} {L} v = record { fills = v.fills; allowed = v.allowed; apart = v.apart; classes = v.classes; below = λ c o e. go c o e (dec_lt c S.classes) }
    where
      go : (c o : ℕ) → 1 ≤ times o (get_or L.lists c []) → Dec (c < S.classes) → o ≤ end
      go c o e (yes h) = rw v.fills at (item_below c o (start S) L.blocks (rw (v.listed c o h) at e))
      go c o e (no h) = absurd (unfold times in omega (arith, ap (λ (l : List ℕ). times o l) (get_or-eq_default L.lists [] {n = c} (omega (arith, v.classes)))))

  -- and the other way, where each visits the free items of its class
  pub valid : {end : ℕ} {L : Layout} → Tiled S end L → ((c o : ℕ) → c < S.classes → times o (get_or L.lists c []) ≡ times o (idle_items S c (start S) L.blocks)) → Valid S end L
  valid t l = record { fills = t.fills; allowed = t.allowed; apart = t.apart; classes = t.classes; listed = l }

  -- every value of the picture fits
  module _ (good : Good S) (end : ℕ) (L : Layout) (v : Tiled S end L) (short : end ≤ S.most) where
    pub listed_below : (c o : ℕ) → (o ≡ 0) ⊎ (1 ≤ times o (get_or L.lists c [])) → o ≤ end
    listed_below c o (inl e) = omega arith
    listed_below c o (inr e) = v.below c o e

    fit_slots : (c p : ℕ) (ss : List Slot) → c < S.classes → AllWithin c ss → Fit S.word (slot_words S c (get_or L.lists c []) p ss)
    unfolding Fit slot_words header AllWithin
    fit_slots c p [] h a = tt
    fit_slots c p (idle ∷ ss) h a = (omega (arith, good.fits end short, listed_below c (next_of (offset_of S p) (get_or L.lists c [])) (next_of_lem (offset_of S p) (get_or L.lists c []))), fit_slots c (p + item_size S c) ss h a.1)
    fit_slots c p (held n ∷ ss) h a = (held_fits S good c n h a.0, fit_slots c (p + item_size S c) ss h a.1)

    fit_use : (p : ℕ) (u : Use) → AllowedUse S u → p + use_size S u ≤ end → Fit S.word (use_words S L.lists p u)
    unfolding Fit use_words AllowedUse use_size
    fit_use p (variable s) a h = omega (arith, good.fits end short)
    fit_use p (page c k ss) a h =
        (omega (arith, good.fits end short), fit_append S.word (slot_words S c (get_or L.lists c []) (p + S.word) ss) (record { at = p + use_size S (page c k ss) - S.word; is = use_size S (page c k ss) + 3 } ∷ []) (fit_slots c (p + S.word) ss a.0 a.4) (omega (arith, good.fits end short)))

    pub fit_blocks : (p prev next : ℕ) (bs : List Block) → AllAllowed S bs → ends S p bs ≤ end → prev ≤ end → next ≤ end → Fit S.word (block_words S L.lists p prev next bs)
    unfolding block_words ends own size_of AllAllowed Allowed Fit
    fit_blocks p prev next [] a h j k = tt
    fit_blocks p prev next (free s ∷ bs) a h j k =
        let e = le_ends S (p + s) bs in
        (omega (arith, good.fits end short), (omega (arith, good.fits end short, first_below S end (p + s) bs next h k), (omega (arith, good.fits end short), (omega (arith, good.fits end short), fit_blocks (p + s) p next bs a.1 h (omega (arith, good.fits end short)) k))))
    fit_blocks p prev next (used u ∷ bs) a h j k =
        fit_append S.word (use_words S L.lists p u) (block_words S L.lists (p + use_size S u) prev next bs)
        (fit_use p u a.0 (omega (arith, le_ends S (p + use_size S u) bs))) (fit_blocks (p + use_size S u) prev next bs a.1 h j k)

    fit_heads : (p : ℕ) (ls : List (List ℕ)) → ((c : ℕ) → c < length ls → head_of (get_or ls c []) ≤ end) → Fit S.word (head_words S p ls)
    unfolding Fit head_words
    fit_heads p [] h = tt
    fit_heads p (l ∷ ls) h = (omega (arith, good.fits end short, h 0 (omega arith)), fit_heads (p + S.word) ls (λ c k. h (suc c) (omega arith)))

    pub fit_words : Fit S.word (words S end L)
    unfolding words fixed_low fixed_high Fit
    fit_words =
        let e = le_ends S (start S) L.blocks in
        let f = v.fills in (
          omega (arith, good.fits end short),
          (
            omega (arith, good.fits end short),
            (
              omega (arith, good.fits end short, first_below S end (start S) L.blocks 0 (omega (arith, good.fits end short)) (omega (arith, good.fits end short))),
              (
                omega (arith, good.fits end short),
                (
                  omega (arith, good.fits end short),
                  fit_append S.word (head_words S (index S) L.lists ++ record { at = start S - S.word; is = S.word * S.classes + tags S + 3 } ∷ []) (block_words S L.lists (start S) 0 0 L.blocks)
                      (fit_append S.word (head_words S (index S) L.lists) (record { at = start S - S.word; is = S.word * S.classes + tags S + 3 } ∷ [])
                      (fit_heads (index S) L.lists (λ c h. listed_below c (head_of (get_or L.lists c [])) (head_of_lem (get_or L.lists c []))))
                      (omega (arith, good.fits end short)))
                      (fit_blocks (start S) 0 0 L.blocks v.allowed (omega (arith, good.fits end short)) (omega (arith, good.fits end short)) (omega (arith, good.fits end short))),
                ),
              ),
            ),
          ),
        )

    pub rise_words : Rise S.word 8 (words S end L) end
    unfolding words front
    rise_words = rw v.fills at (rise_front S end L.lists L.blocks 0 v.classes v.allowed)

  -- drawn over bytes it is shown by them, and the magic number stays
  module _ (good : Good S) (b : List ℕ) (L : Layout) (v : Tiled S (end_of (length b)) L) (short : length b ≤ S.most) where
    rises : Rise S.word 8 (words S (end_of (length b)) L) (end_of (length b))
    rises = rise_words good (end_of (length b)) L v (omega arith)

    pub magic_stays : (i : ℕ) → i < 8 → get_or (draw S.word (words S (end_of (length b)) L) b) i 0 ≡ get_or b i 0
    magic_stays i l = let ws = words S (end_of (length b)) L in draw_out S.word ws b i (rise_outside S.word 8 ws (end_of (length b)) i rises l)

    pub drawn_magic : word_at 8 (draw S.word (words S (end_of (length b)) L) b) 0 ≡ word_at 8 b 0
    drawn_magic = word_agree 8 (draw S.word (words S (end_of (length b)) L) b) b 0 (λ i k l. magic_stays i l)

    pub drawn_shown : Shows S.word (draw S.word (words S (end_of (length b)) L) b) (words S (end_of (length b)) L)
    drawn_shown = draw_shows S.word 8 (words S (end_of (length b)) L) (end_of (length b)) b rises (omega arith) (fit_words good (end_of (length b)) L v (omega arith))

  -- THE LAW: a valid layout drawn over the bytes of a heap is that heap's layout
  pub drawn_here : Good S → (b : List ℕ) (L : Layout) → word_at 8 b 0 ≡ S.magic → Valid S (end_of (length b)) L → length b ≤ S.most
      → Here S (draw S.word (words S (end_of (length b)) L) b) L
  drawn_here good b L m v r =
      let e = length_draw S.word (words S (end_of (length b)) L) b in
      record { magic = drawn_magic good b L (tiled v) r ∙ m; valid = rw e v; shown = rw e (drawn_shown good b L (tiled v) r) }

-- one that the bytes have already, drawn again, changes nothing
pub drawn_same : (S : Shape) (b : List ℕ) (L : Layout) → Here S b L → Bytes b → b ≡ draw S.word (words S (end_of (length b)) L) b
drawn_same S b L h bytes = drawn S.word (words S (end_of (length b)) L) b b bytes refl h.shown (λ i l o. refl)

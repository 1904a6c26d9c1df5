-- What the words of a sound heap say: heads, and headers of free items.
use Rattle.std.proofs.Common.{ℕ, zero, suc, ◌+◌, ◌-◌, ◌*◌, ◌≤◌, ◌<◌, ◌≡◌, ap, ◌∙◌, List, [], ◌∷◌, ◌++◌, arith, length, get_or, eq-eqb, ne_eqb}
use Rattle.std.proofs.Math.Decide.{ℕ_discrete, dec_le}
use Rattle.words.specs.Word.{word_at}
use Rattle.model.specs.Shape.{Shape, start, index, tags, item_size, offset_of, item_at, end_of}
use Rattle.model.specs.Picture.{Word, Shows}
use Rattle.model.specs.Layout.{Slot, idle, held, Use, variable, page, Block, free, used, Layout, head_of, next_of, use_size, size_of, first_free, header, slot_words, use_words, own, block_words, head_words, fixed_low, fixed_high, words}
use Rattle.model.specs.Sound.{times, idle_slots, idle_in, idle_items, Here}
use Rattle.model.proofs.pictures.Pictures.{shows_left, shows_right}
use Rattle.model.proofs.pictures.Drawn.{times_append}

module _ (S : Shape) (b : List ℕ) where
  heads_read : (p c : ℕ) (ls : List (List ℕ)) → c < length ls → Shows S.word b (head_words S p ls) → word_at S.word b (p + S.word * c) ≡ head_of (get_or ls c [])
  unfolding head_words Shows
  heads_read p c [] h s = absurd (omega arith)
  heads_read p zero (l ∷ ls) h s = ap (λ (x : ℕ). word_at S.word b x) (omega arith) ∙ s.0
  heads_read p (suc c) (l ∷ ls) h s = ap (λ (x : ℕ). word_at S.word b x) (omega arith) ∙ heads_read (p + S.word) c ls (omega arith) s.1

  module _ (ls : List (List ℕ)) where
    -- the header of the free item of class c at offset o
    abbrev Says : ℕ → ℕ → Type 0
    Says c o = word_at S.word b (item_at S o) ≡ 16 * next_of o (get_or ls c []) + 4 * c + 1

    slots_read : (c o p : ℕ) (ss : List Slot) → index S ≤ p → Shows S.word b (slot_words S c (get_or ls c []) p ss) → 1 ≤ times o (idle_slots S c p ss) → Says c o
    unfolding slot_words Shows header idle_slots times
    slots_read c o p [] h s k = absurd (omega arith)
    slots_read c o p (held n ∷ ss) h s k = slots_read c o (p + item_size S c) ss (omega arith) s.1 k
    slots_read c o p (idle ∷ ss) h s k = go (ℕ_discrete o (offset_of S p)) (slots_read c o (p + item_size S c) ss (omega arith) s.1)
      where
        go : Dec (o ≡ offset_of S p) → (1 ≤ times o (idle_slots S c (p + item_size S c) ss) → Says c o) → Says c o
        go (yes e) r = let z : item_at S (offset_of S p) ≡ p = omega arith in rw (e, z) s.0
        go (no e) r = r (omega (arith, rw (ne_eqb o (offset_of S p) e) at k))

    use_read : (c o p : ℕ) (u : Use) → index S ≤ p → Shows S.word b (use_words S ls p u) → 1 ≤ times o (idle_in S c p (used u)) → Says c o
    unfolding use_words idle_in Shows
    use_read c o p (variable t) h s k = absurd (unfold times in omega arith)
    use_read c o p (page d j ss) h s k = go (ℕ_discrete c d)
      where
        go : Dec (c ≡ d) → Says c o
        go (no e) = absurd (unfold times in omega (arith, rw (ne_eqb c d e) at k))
        go (yes e) =
            rw e
            (slots_read d o (p + S.word) ss (omega arith)
            (shows_left S.word b (slot_words S d (get_or ls d []) (p + S.word) ss) (record { at = p + use_size S (page d j ss) - S.word; is = use_size S (page d j ss) + 3 } ∷ []) s.1)
            (rw (eq-eqb c d e) at k))

    blocks_read : (c o p prev : ℕ) (bs : List Block) → index S ≤ p → Shows S.word b (block_words S ls p prev 0 bs) → 1 ≤ times o (idle_items S c p bs) → Says c o
    unfolding block_words idle_items own size_of
    blocks_read c o p prev [] h s k = absurd (unfold times in omega arith)
    blocks_read c o p prev (free t ∷ bs) h s k =
        blocks_read c o (p + t) p bs (omega arith) (shows_right S.word b (own S ls p prev (first_free S (p + t) bs 0) (free t)) (block_words S ls (p + t) p 0 bs) s) (unfold idle_in in k)
    blocks_read c o p prev (used u ∷ bs) h s k =
        go (dec_le 1 (times o (idle_in S c p (used u))))
        (blocks_read c o (p + use_size S u) prev bs (omega arith) (shows_right S.word b (use_words S ls p u) (block_words S ls (p + use_size S u) prev 0 bs) s))
      where
        go : Dec (1 ≤ times o (idle_in S c p (used u))) → (1 ≤ times o (idle_items S c (p + use_size S u) bs) → Says c o) → Says c o
        go (yes i) r = use_read c o p u h (shows_left S.word b (use_words S ls p u) (block_words S ls (p + use_size S u) prev 0 bs) s) i
        go (no n) r = r (omega (arith, times_append o (idle_in S c p (used u)) (idle_items S c (p + use_size S u) bs)))

  pub blocks_in : (end : ℕ) (L : Layout) → Shows S.word b (words S end L) → Shows S.word b (block_words S L.lists (start S) 0 0 L.blocks)
  unfolding words fixed_low Shows
  blocks_in end L s = shows_right S.word b (fixed_high S end L.lists) (block_words S L.lists (start S) 0 0 L.blocks) s.1.1.1

  -- the head of class c
  pub head_in : (end : ℕ) (L : Layout) → Shows S.word b (words S end L) → length L.lists ≡ S.classes → (c : ℕ) → c < S.classes → word_at S.word b (index S + S.word * c) ≡ head_of (get_or L.lists c [])
  unfolding words fixed_low fixed_high Shows
  head_in end L s n c l =
      let t : List Word = record { at = start S - S.word; is = S.word * S.classes + tags S + 3 } ∷ [] in
      heads_read (index S) c L.lists (omega (arith, n))
      (shows_left S.word b (head_words S (index S) L.lists) t
      (shows_left S.word b (head_words S (index S) L.lists ++ t) (block_words S L.lists (start S) 0 0 L.blocks) s.1.1.1.1.1))

  module _ (L : Layout) (h : Here S b L) where
    pub blocks_shown : Shows S.word b (block_words S L.lists (start S) 0 0 L.blocks)
    blocks_shown = blocks_in (end_of (length b)) L h.shown

    -- the head of class c, and a free item's header
    pub head_read : (c : ℕ) → c < S.classes → word_at S.word b (index S + S.word * c) ≡ head_of (get_or L.lists c [])
    head_read = head_in (end_of (length b)) L h.shown h.valid.classes

    pub item_read : (c o : ℕ) → 1 ≤ times o (idle_items S c (start S) L.blocks) → word_at S.word b (item_at S o) ≡ 16 * next_of o (get_or L.lists c []) + 4 * c + 1
    item_read c o i = blocks_read L.lists c o (start S) 0 L.blocks (omega arith) blocks_shown i

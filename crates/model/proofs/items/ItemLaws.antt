-- An item goes from its class's list into use, or back: the two words that are written draw the new layout.
use Rattle.std.proofs.Common.{ℕ, zero, suc, ◌+◌, ◌-◌, ◌*◌, ◌^◌, ◌≤◌, ◌<◌, ◌≡◌, refl, subst, ◌∙◌, List, [], ◌∷◌, ◌++◌, inl, inr, arith, mul-le-mul_left, length, get_or, set, length-set, eq-eqb, ne_eqb}
use Rattle.words.specs.Word.{put, Bytes}
use Rattle.model.specs.Picture.{Word, Shows, draw}
use Rattle.model.specs.Shape.{Shape, start, index, tags, item_size}
use Rattle.model.specs.Parts.{first_free_at}
use Rattle.model.specs.Layout.{Slot, variable, page, Block, free, used, Layout, head_of, next_of, use_size, size_of, ends, first_free, header, slot_words, use_words, own, block_words, head_words, fixed_low, fixed_high, words}
use Rattle.model.specs.inner.Laid.{Tiled}
use Rattle.model.proofs.pictures.Pictures.{Outside, length_draw, bytes_draw, draw_out, draw_over}
use Rattle.model.proofs.blocks.Blocks.{rise_blocks}
use Rattle.model.proofs.blocks.Replace.{rise_low, rise_high, rise_heads}
use Rattle.model.proofs.pictures.Change.{set_at, Has, set_append, has_left, has_right, set_away, outside_set, two_put}
use Rattle.model.proofs.items.Items.{InSlots, InUse, InBlocks, blocks_range, first_item_to, blocks_here}
use Rattle.model.proofs.pictures.Drawn.{rise_words, fit_words}
use Rattle.model.specs.Rules.{item_to}
use Rattle.model.proofs.Good.{Good}

module _ (S : Shape) (good : Good S) where
  -- the head of class c changes
  heads_set : (l : List ℕ) (p a : ℕ) (ls : List (List ℕ)) (c : ℕ) → a ≡ p + S.word * c → c < length ls → head_words S p (set ls c l) ≡ set_at a (head_of l) (head_words S p ls)
  unfolding head_words set_at
  heads_set l p a [] c e h = absurd (omega arith)
  heads_set l p a (x ∷ ls) zero e h =
      rw (eq-eqb a p (omega arith), set_away S.word good.word a (head_of l) (p + S.word) (head_words S (p + S.word) ls) (p + S.word + S.word * length ls) (rise_heads S (p + S.word) ls (p + S.word + S.word * length ls) (omega arith)) (λ i j. omega arith))
  heads_set l p a (x ∷ ls) (suc c) e h = rw (ne_eqb a p (λ k. omega arith), heads_set l (p + S.word) a ls c (omega arith) (omega arith))

  pub heads_has : (p a : ℕ) (ls : List (List ℕ)) (c : ℕ) → a ≡ p + S.word * c → c < length ls → Has a (head_words S p ls)
  unfolding head_words Has
  heads_has p a [] c e h = absurd (omega arith)
  heads_has p a (x ∷ ls) zero e h = inl (omega arith)
  heads_has p a (x ∷ ls) (suc c) e h = inr (heads_has (p + S.word) a ls c (omega arith) (omega arith))

  slots_has : (c : ℕ) (l : List ℕ) (q p : ℕ) (ss : List Slot) → InSlots S c q p ss → Has q (slot_words S c l p ss)
  unfolding slot_words Has InSlots
  slots_has c l q p [] h = absurd h
  slots_has c l q p (s ∷ ss) (inl e) = inl e
  slots_has c l q p (s ∷ ss) (inr h) = inr (slots_has c l q (p + item_size S c) ss h)

  pub blocks_has : (ls : List (List ℕ)) (c q p prev next : ℕ) (bs : List Block) → InBlocks S c q p bs → Has q (block_words S ls p prev next bs)
  unfolding block_words InBlocks InUse own size_of use_words Has
  blocks_has ls c q p prev next [] h = absurd h
  blocks_has ls c q p prev next (free t ∷ bs) h = inr (inr (inr (inr (blocks_has ls c q (p + t) p next bs h))))
  blocks_has ls c q p prev next (used (variable t) ∷ bs) (inl h) = absurd h
  blocks_has ls c q p prev next (used (page d k ss) ∷ bs) (inl h) =
      inr (has_left q (slot_words S d (get_or ls d []) (p + S.word) ss ++ record { at = p + use_size S (page d k ss) - S.word; is = use_size S (page d k ss) + 3 } ∷ []) (block_words S ls (p + use_size S (page d k ss)) prev next bs)
      (has_left q (slot_words S d (get_or ls d []) (p + S.word) ss) (record { at = p + use_size S (page d k ss) - S.word; is = use_size S (page d k ss) + 3 } ∷ [])
      (slots_has d (get_or ls d []) q (p + S.word) ss (subst (λ (d : ℕ). InSlots S d q (p + S.word) ss) h.0 h.1))))
  blocks_has ls c q p prev next (used u ∷ bs) (inr h) = has_right q (use_words S ls p u) (block_words S ls (p + use_size S u) prev next bs) (blocks_has ls c q (p + use_size S u) prev next bs h)

  module _ (end : ℕ) (L : Layout) (v : Tiled S end L) (c : ℕ) (cl : c < S.classes) (l : List ℕ) where
    -- where the head of class c stands
    abbrev pub head_at : ℕ
    head_at = index S + S.word * c

    pub head_in : head_at + S.word ≤ start S - S.word
    head_in = omega (arith, mul-le-mul_left S.word cl)

    pub high_set : fixed_high S end (set L.lists c l) ≡ set_at head_at (head_of l) (fixed_high S end L.lists)
    unfolding fixed_high set_at
    high_set =
        rw (
          ne_eqb head_at (8 + 3 * S.word) (λ e. omega arith),
          ne_eqb head_at (8 + 4 * S.word) (λ e. omega arith),
          heads_set l (index S) head_at L.lists c refl (omega (arith, v.classes)),
          set_append head_at (head_of l) (head_words S (index S) L.lists) (record { at = start S - S.word; is = S.word * S.classes + tags S + 3 } ∷ []),
          ne_eqb head_at (start S - S.word) (λ e. omega (arith, head_in)),
        )

    module _ (q o : ℕ) (qo : q ≡ index S + o) (s : Slot) (agree : (d x : ℕ) → (x ≡ o → ⊥) → next_of x (get_or (set L.lists c l) d []) ≡ next_of x (get_or L.lists d [])) (inn : InBlocks S c q (start S) L.blocks) where
      -- the layout with the item changed, and its class's list
      abbrev pub changed : Layout
      changed = record { blocks = item_to S s q (start S) L.blocks; lists = set L.lists c l }

      abbrev pub value : ℕ
      value = header S c (get_or (set L.lists c l) c []) q s

      first : Word
      first = record { at = first_free_at S; is = first_free S (start S) L.blocks 0 }

      block_part : List Word
      block_part = block_words S L.lists (start S) 0 0 L.blocks

      -- the head, set
      step1 : set_at head_at (head_of l) (words S end L) ≡ fixed_low S ++ (first ∷ (fixed_high S end (set L.lists c l) ++ block_part))
      unfolding words set_at first block_part
      step1 =
          rw (
            set_append head_at (head_of l) (fixed_low S) (first ∷ (fixed_high S end L.lists ++ block_part)),
            set_away S.word good.word head_at (head_of l) 8 (fixed_low S) (first_free_at S) (rise_low S) (λ i j. omega arith),
            ne_eqb head_at (first_free_at S) (λ e. omega arith),
            set_append head_at (head_of l) (fixed_high S end L.lists) block_part,
            high_set,
            set_away S.word good.word head_at (head_of l) (start S) block_part (ends S (start S) L.blocks) (rise_blocks S L.lists (start S) 0 0 L.blocks v.allowed) (λ i j. omega (arith, head_in)),
          )

      -- and the item's header
      step2 : set_at q value (fixed_low S ++ (first ∷ (fixed_high S end (set L.lists c l) ++ block_part))) ≡ fixed_low S ++ (first ∷ (fixed_high S end (set L.lists c l) ++ set_at q value block_part))
      unfolding set_at first
      step2 =
          let r = blocks_range S c q (start S) L.blocks inn in
          rw (
            set_append q value (fixed_low S) (first ∷ (fixed_high S end (set L.lists c l) ++ block_part)),
            set_away S.word good.word q value 8 (fixed_low S) (first_free_at S) (rise_low S) (λ i j. omega (arith, r.0)),
            ne_eqb q (first_free_at S) (λ e. omega (arith, r.0)),
            set_append q value (fixed_high S end (set L.lists c l)) block_part,
            set_away S.word good.word q value (first_free_at S + S.word) (fixed_high S end (set L.lists c l)) (start S) (rise_high S end (set L.lists c l) (length-set L.lists c l ∙ v.classes)) (λ i j. omega (arith, r.0)),
          )

      item_words_lem : words S end changed ≡ set_at q value (set_at head_at (head_of l) (words S end L))
      unfolding words first block_part
      item_words_lem =
          rw (step1, step2, first_item_to S s q (start S) L.blocks 0, blocks_here S good L.lists (set L.lists c l) o q qo agree s c (start S) 0 0 L.blocks v.allowed (omega arith) inn)

      has_head : Has head_at (words S end L)
      unfolding words fixed_high Has first block_part
      has_head =
          has_right head_at (fixed_low S) (first ∷ (fixed_high S end L.lists ++ block_part))
          (inr (inr (inr (has_left head_at (head_words S (index S) L.lists ++ record { at = start S - S.word; is = S.word * S.classes + tags S + 3 } ∷ []) block_part
          (has_left head_at (head_words S (index S) L.lists) (record { at = start S - S.word; is = S.word * S.classes + tags S + 3 } ∷ []) (heads_has (index S) head_at L.lists c refl (omega (arith, v.classes))))))))

      has_item : Has q (words S end L)
      unfolding words Has first block_part
      has_item =
          has_right q (fixed_low S) (first ∷ (fixed_high S end L.lists ++ block_part))
          (inr (has_right q (fixed_high S end L.lists) block_part (blocks_has L.lists c q (start S) 0 0 L.blocks inn)))

      -- THE LAW: the head and the header written are the layout with the item changed, drawn
      pub item_law : (b : List ℕ) → end ≤ length b → Bytes b → head_of l < 256 ^ S.word → value < 256 ^ S.word → end ≤ S.most → Shows S.word b (words S end L)
          → put S.word (put S.word b head_at (head_of l)) q value ≡ draw S.word (words S end changed) b
      item_law b n bytes f g short sh =
          rw item_words_lem
          (two_put S.word good.word head_at (head_of l) q value 8 (words S end L) end b (rise_words S good end L v short) n bytes f g has_head has_item sh)

      -- both pictures have words at the same positions, so the new one drawn over the old is the new one alone
      pub item_over : (b : List ℕ) → end ≤ length b → Bytes b → end ≤ S.most → Tiled S end changed
          → draw S.word (words S end changed) (draw S.word (words S end L) b) ≡ draw S.word (words S end changed) b
      item_over b n bytes short v' =
          draw_over S.word 8 (words S end changed) end b (draw S.word (words S end L) b) (rise_words S good end changed v' short) n (fit_words S good end changed v' short)
          (bytes_draw S.word (words S end L) b bytes) (length_draw S.word (words S end L) b)
          (λ i out.
          let o : Outside S.word i (set_at q value (set_at head_at (head_of l) (words S end L))) = rw item_words_lem at out in
          draw_out S.word (words S end L) b i (outside_set S.word i head_at (head_of l) (words S end L) (outside_set S.word i q value (set_at head_at (head_of l) (words S end L)) o)))

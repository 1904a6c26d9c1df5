-- The list of a class changes, but what comes after each of its free items does not: of the words that are shown, only its head does.
use Rattle.std.proofs.Common.{ℕ, ◌+◌, ◌-◌, ◌*◌, ◌^◌, ◌≤◌, ◌<◌, ◌≡◌, refl, sym, ap, ap₂, subst, ◌∙◌, List, [], ◌∷◌, ◌++◌, inr, arith, length, get_or, set, get_or-set_same, get_or-set_other, eq-eqb, ne_eqb}
use Rattle.std.proofs.Math.Decide.{ℕ_discrete}
use Rattle.words.specs.Word.{put, Bytes}
use Rattle.words.proofs.WordLaws.{length_put, put_out, bytes_put}
use Rattle.model.specs.Picture.{Word, Shows, draw}
use Rattle.model.specs.Shape.{Shape, start, index, tags, item_size, offset_of}
use Rattle.model.specs.Parts.{first_free_at, free_header, held_header}
use Rattle.model.specs.Layout.{Slot, idle, held, Use, variable, page, Block, free, used, Layout, head_of, next_of, use_size, size_of, ends, first_free, header, slot_words, use_words, own, block_words, head_words, fixed_low, fixed_high, words}
use Rattle.model.specs.Sound.{times, idle_slots, idle_in, idle_items}
use Rattle.model.specs.inner.Laid.{Tiled}
use Rattle.model.proofs.Good.{Good}
use Rattle.model.proofs.pictures.Pictures.{draw_over}
use Rattle.model.proofs.blocks.Blocks.{rise_blocks}
use Rattle.model.proofs.blocks.Replace.{rise_low}
use Rattle.model.proofs.pictures.Change.{set_at, Has, set_append, has_left, has_right, set_away, set_shows, has_out}
use Rattle.model.proofs.items.ItemLaws.{heads_has, high_set, head_in}
use Rattle.model.proofs.pictures.Drawn.{times_append, rise_words, fit_words}
use Rattle.model.proofs.blocks.Middle.{Middle}

module _ (S : Shape) where
  -- blocks show the same under other lists where the same comes after each of their free items
  module _ (ls ls' : List (List ℕ)) where
    slots_relist : (c p : ℕ) (ss : List Slot) → ((o : ℕ) → 1 ≤ times o (idle_slots S c p ss) → next_of o (get_or ls' c []) ≡ next_of o (get_or ls c [])) → slot_words S c (get_or ls' c []) p ss ≡ slot_words S c (get_or ls c []) p ss
    unfolding slot_words header idle_slots times
    slots_relist c p [] h = refl
    slots_relist c p (idle ∷ ss) h =
        ap₂ (λ (n : ℕ) (l : List Word). record { at = p; is = free_header c n } ∷ l) (h (offset_of S p) (rw (eq-eqb (offset_of S p) (offset_of S p) refl) (omega arith))) (slots_relist c (p + item_size S c) ss (λ o k. h o (omega (arith, k))))
    slots_relist c p (held n ∷ ss) h = ap (λ (l : List Word). record { at = p; is = held_header c n } ∷ l) (slots_relist c (p + item_size S c) ss h)

    use_relist : (p : ℕ) (u : Use) → ((d o : ℕ) → 1 ≤ times o (idle_in S d p (used u)) → next_of o (get_or ls' d []) ≡ next_of o (get_or ls d [])) → use_words S ls' p u ≡ use_words S ls p u
    unfolding use_words idle_in
    use_relist p (variable t) h = refl
    use_relist p (page d k ss) h =
        let tail : List Word = record { at = p + use_size S (page d k ss) - S.word; is = use_size S (page d k ss) + 3 } ∷ [] in
        ap (λ (l : List Word). record { at = p; is = use_size S (page d k ss) + 3 } ∷ (l ++ tail)) (slots_relist d (p + S.word) ss (λ o i. h d o (rw (eq-eqb d d refl) i)))

    pub relist : (p prev next : ℕ) (bs : List Block) → ((d o : ℕ) → 1 ≤ times o (idle_items S d p bs) → next_of o (get_or ls' d []) ≡ next_of o (get_or ls d [])) → block_words S ls' p prev next bs ≡ block_words S ls p prev next bs
    unfolding block_words idle_items own size_of
    relist p prev next [] h = refl
    relist p prev next (free t ∷ bs) h = ap (λ (l : List Word). own S ls p prev (first_free S (p + t) bs next) (free t) ++ l) (relist (p + t) p next bs (λ d o. unfold idle_in in h d o))
    relist p prev next (used u ∷ bs) h =
        rw (use_relist p u (λ d o i. h d o (omega (arith, i, times_append o (idle_in S d p (used u)) (idle_items S d (p + use_size S u) bs)))))
        (ap (λ (l : List Word). use_words S ls p u ++ l) (relist (p + use_size S u) prev next bs (λ d o i. h d o (omega (arith, i, times_append o (idle_in S d p (used u)) (idle_items S d (p + use_size S u) bs))))))

  module _ (good : Good S) (end : ℕ) (L : Layout) (v : Tiled S end L) (c : ℕ) (cl : c < S.classes) (l : List ℕ) where
    abbrev pub lists' : List (List ℕ)
    lists' = set L.lists c l

    abbrev pub head : ℕ
    head = index S + S.word * c

    -- any layout with these lists has a word for the head of class c
    pub has_head : (bs : List Block) (ls : List (List ℕ)) → length ls ≡ S.classes → Has head (words S end (record { blocks = bs; lists = ls }))
    unfolding words fixed_high Has
    has_head bs ls e =
        has_right head (fixed_low S) (record { at = first_free_at S; is = first_free S (start S) bs 0 } ∷ (fixed_high S end ls ++ block_words S ls (start S) 0 0 bs))
        (inr (inr (inr (has_left head (head_words S (index S) ls ++ record { at = start S - S.word; is = S.word * S.classes + tags S + 3 } ∷ []) (block_words S ls (start S) 0 0 bs)
        (has_left head (head_words S (index S) ls) (record { at = start S - S.word; is = S.word * S.classes + tags S + 3 } ∷ []) (heads_has S good (index S) head ls c refl (omega (arith, e))))))))

    -- the same comes after each free item of class c; where there is none, that is so of any list
    abbrev pub NextsStay : Type 0
    NextsStay = (o : ℕ) → 1 ≤ times o (idle_items S c (start S) L.blocks) → next_of o l ≡ next_of o (get_or L.lists c [])

    pub none_next : ((o : ℕ) → times o (idle_items S c (start S) L.blocks) ≡ 0) → NextsStay
    none_next none o i = absurd (omega (arith, i, none o))

    nexts : NextsStay → (d o : ℕ) → 1 ≤ times o (idle_items S d (start S) L.blocks) → next_of o (get_or lists' d []) ≡ next_of o (get_or L.lists d [])
    nexts same d o i = go (ℕ_discrete d c)
      where
        go : Dec (d ≡ c) → next_of o (get_or lists' d []) ≡ next_of o (get_or L.lists d [])
        go (no e) = ap (next_of o) (get_or-set_other L.lists c d l [] e)
        go (yes e) = rw e (ap (next_of o) (get_or-set_same L.lists c l [] (omega (arith, cl, v.classes))) ∙ same o (rw e at i))

    -- then only its head changes
    pub head_words_lem : NextsStay → words S end (record { blocks = L.blocks; lists = lists' }) ≡ set_at head (head_of l) (words S end L)
    unfolding words set_at
    head_words_lem same =
        rw (
          set_append head (head_of l) (fixed_low S) (record { at = first_free_at S; is = first_free S (start S) L.blocks 0 } ∷ (fixed_high S end L.lists ++ block_words S L.lists (start S) 0 0 L.blocks)),
          set_away S.word good.word head (head_of l) 8 (fixed_low S) (first_free_at S) (rise_low S) (λ i j. omega arith),
          ne_eqb head (first_free_at S) (λ e. omega arith),
          set_append head (head_of l) (fixed_high S end L.lists) (block_words S L.lists (start S) 0 0 L.blocks),
          high_set S good end L v c cl l,
          set_away S.word good.word head (head_of l) (start S) (block_words S L.lists (start S) 0 0 L.blocks) (ends S (start S) L.blocks) (rise_blocks S L.lists (start S) 0 0 L.blocks v.allowed) (λ i j. omega (arith, head_in S good end L v c cl l)),
          relist L.lists lists' (start S) 0 0 L.blocks (nexts same),
        )

    -- the head written, the blocks show the new lists
    pub head_shown : (b : List ℕ) → end ≤ length b → head_of l < 256 ^ S.word → end ≤ S.most
        → NextsStay → Shows S.word b (words S end L)
        → Shows S.word (put S.word b head (head_of l)) (words S end (record { blocks = L.blocks; lists = lists' }))
    head_shown b n f short same shown =
        rw (head_words_lem same) (set_shows S.word good.word head (head_of l) 8 (words S end L) end b (rise_words S good end L v short) n f (has_head L.blocks L.lists v.classes) shown)

    -- and a drawing of any layout goes over the head
    pub head_over : (b : List ℕ) (new : Layout) → end ≤ length b → Bytes b → end ≤ S.most → Tiled S end new
        → draw S.word (words S end new) (put S.word b head (head_of l)) ≡ draw S.word (words S end new) b
    head_over b new n bytes short v' =
        draw_over S.word 8 (words S end new) end b (put S.word b head (head_of l)) (rise_words S good end new v' short) n (fit_words S good end new v' short) (bytes_put S.word b head (head_of l) bytes)
        (length_put S.word b head (head_of l))
        (λ i o. put_out S.word b head (head_of l) i (has_out S.word i head (words S end new) (has_head new.blocks new.lists v'.classes) o))

    -- blocks in the middle of the heap, once the head is written
    pub head_middle : {b : List ℕ} {pre old post : List Block} {p q prev next : ℕ} → Middle S b end L.lists pre old post p q prev next → L.blocks ≡ pre ++ (old ++ post)
        → head_of l < 256 ^ S.word → end ≤ S.most → ((o : ℕ) → times o (idle_items S c (start S) L.blocks) ≡ 0)
        → Middle S (put S.word b head (head_of l)) end lists' pre old post p q prev next
    head_middle {b} {pre} {old} {post} m e f short none =
        let was : Shows S.word b (words S end L) = subst (λ (bs : List Block). Shows S.word b (words S end (record { blocks = bs; lists = L.lists }))) (sym e) m.shown in
        record {
          shown = subst (λ (bs : List Block). Shows S.word (put S.word b head (head_of l)) (words S end (record { blocks = bs; lists = lists' }))) e (head_shown b m.inside f short (none_next none) was);
          allowed = m.allowed;
          fills = m.fills;
          inside = omega (arith, m.inside, length_put S.word b head (head_of l));
          places = m.places;
        }

-- Layouts with the same blocks have words at the same places: of two that are drawn one over the other, the second alone is left.
use Rattle.std.proofs.Common.{ℕ, ◌+◌, ◌-◌, ◌*◌, ◌≤◌, ◌%◌, ◌≡◌, refl, ap, subst, ◌∙◌, List, [], ◌∷◌, arith, length, get_or}
use Rattle.words.specs.Width.{Width}
use Rattle.words.specs.Word.{word_at, Bytes}
use Rattle.words.proofs.WordLaws.{word_agree}
use Rattle.model.specs.Shape.{Shape, shape, start, index, tags, item_size, end_of}
use Rattle.model.specs.Picture.{Word, draw}
use Rattle.model.specs.Layout.{Slot, variable, page, Block, free, used, Layout, use_size, size_of, first_free, slot_words, use_words, own, block_words, head_words, fixed_low, fixed_high, words, if_free}
use Rattle.model.specs.Sound.{times}
use Rattle.model.specs.Calls.{drawn}
use Rattle.model.specs.inner.Laid.{Tiled, Laid}
use Rattle.model.proofs.Good.{Good, shape_good}
use Rattle.model.proofs.pictures.Pictures as pictures
use Rattle.model.proofs.pictures.Pictures.{Outside, outside_left, outside_right, outside_append, rise_outside, draw_out, draw_shows, draw_over, length_draw, bytes_draw}
use Rattle.model.proofs.pictures.Drawn.{rise_words, fit_words}

module _ (S : Shape) (i : ℕ) where
  slots_places : (c p : ℕ) (l l' : List ℕ) (ss : List Slot) → Outside S.word i (slot_words S c l p ss) → Outside S.word i (slot_words S c l' p ss)
  unfolding slot_words Outside
  slots_places c p l l' [] o = tt
  slots_places c p l l' (s ∷ ss) o = (o.0, slots_places c (p + item_size S c) l l' ss o.1)

  heads_places : (p : ℕ) (ls ls' : List (List ℕ)) → length ls ≡ length ls' → Outside S.word i (head_words S p ls) → Outside S.word i (head_words S p ls')
  unfolding head_words Outside
  heads_places p [] [] e o = tt
  heads_places p [] (l ∷ ls') e o = absurd (omega arith)
  heads_places p (l ∷ ls) [] e o = absurd (omega arith)
  heads_places p (l ∷ ls) (l' ∷ ls') e o = (o.0, heads_places (p + S.word) ls ls' (omega arith) o.1)

  module _ (ls ls' : List (List ℕ)) where
    own_places : (p prev next : ℕ) (b : Block) → Outside S.word i (own S ls p prev next b) → Outside S.word i (own S ls' p prev next b)
    unfolding own use_words Outside
    own_places p prev next (free s) o = o
    own_places p prev next (used (variable s)) o = o
    own_places p prev next (used (page c k ss)) o =
        let tail : List Word = record { at = p + use_size S (page c k ss) - S.word; is = use_size S (page c k ss) + 3 } ∷ [] in
        (o.0, outside_append S.word i (slot_words S c (get_or ls' c []) (p + S.word) ss) tail (slots_places c (p + S.word) (get_or ls c []) (get_or ls' c []) ss (outside_left S.word i (slot_words S c (get_or ls c []) (p + S.word) ss) tail o.1)) (outside_right S.word i (slot_words S c (get_or ls c []) (p + S.word) ss) tail o.1))

    blocks_places : (p prev next : ℕ) (bs : List Block) → Outside S.word i (block_words S ls p prev next bs) → Outside S.word i (block_words S ls' p prev next bs)
    unfolding block_words
    blocks_places p prev next [] o = o
    blocks_places p prev next (b ∷ bs) o =
        let n = first_free S (p + size_of S b) bs next in
        let here = own S ls p prev n b in
        let rest = block_words S ls (p + size_of S b) (if_free b p prev) next bs in
        outside_append S.word i (own S ls' p prev n b) (block_words S ls' (p + size_of S b) (if_free b p prev) next bs) (own_places p prev n b (outside_left S.word i here rest o))
        (blocks_places (p + size_of S b) (if_free b p prev) next bs (outside_right S.word i here rest o))

    high_places : (end : ℕ) → length ls ≡ length ls' → Outside S.word i (fixed_high S end ls) → Outside S.word i (fixed_high S end ls')
    unfolding fixed_high Outside
    high_places end e o =
        let tail : List Word = record { at = start S - S.word; is = S.word * S.classes + tags S + 3 } ∷ [] in
        (o.0, (o.1.0, outside_append S.word i (head_words S (index S) ls') tail (heads_places (index S) ls ls' e (outside_left S.word i (head_words S (index S) ls) tail o.1.1)) (outside_right S.word i (head_words S (index S) ls) tail o.1.1)))

    pub places : (end : ℕ) (bs : List Block) → length ls ≡ length ls' → Outside S.word i (words S end (record { blocks = bs; lists = ls })) → Outside S.word i (words S end (record { blocks = bs; lists = ls' }))
    unfolding words fixed_low Outside
    places end bs e o =
        let high = fixed_high S end ls in
        let rest = block_words S ls (start S) 0 0 bs in
        (o.0, (o.1.0, (o.1.1.0, outside_append S.word i (fixed_high S end ls') (block_words S ls' (start S) 0 0 bs) (high_places end e (outside_left S.word i high rest o.1.1.1)) (blocks_places (start S) 0 0 bs (outside_right S.word i high rest o.1.1.1)))))

-- of two layouts with the same blocks, drawn one over the other, the second is left
pub drawn_over : (S : Shape) → Good S → (b : List ℕ) (L M : Layout) → Bytes b → length b ≤ S.most → M.blocks ≡ L.blocks → length M.lists ≡ length L.lists → Tiled S (end_of (length b)) M
    → drawn S M (drawn S L b) ≡ drawn S M b
drawn_over S good b L M bytes short e n v =
    let len : length (drawn S L b) ≡ length b = length_draw S.word (words S (end_of (length b)) L) b in
    ap (λ (k : ℕ). draw S.word (words S (end_of k) M) (drawn S L b)) len
    ∙ draw_over S.word 8 (words S (end_of (length b)) M) (end_of (length b)) b (drawn S L b) (rise_words S good (end_of (length b)) M v (omega arith)) (omega arith) (fit_words S good (end_of (length b)) M v (omega arith))
    (bytes_draw S.word (words S (end_of (length b)) L) b bytes) len
    (λ i o. draw_out S.word (words S (end_of (length b)) L) b i
    (subst (λ (bs : List Block). Outside S.word i (words S (end_of (length b)) (record { blocks = bs; lists = L.lists }))) e (places S i M.lists L.lists (end_of (length b)) M.blocks n o)))

-- a tiled layout drawn over the bytes of a heap is that heap's layout, and one that it has already, drawn again, changes nothing
module _ {w : ℕ} (wd : Width w) (b : List ℕ) (L : Layout) where
  pub drawn_laid : word_at 8 b 0 ≡ (shape w).magic → Tiled (shape w) (end_of (length b)) L → ((c o : ℕ) → 1 ≤ times o (get_or L.lists c []) → o % w ≡ 0) → length b ≤ (shape w).most
      → Laid w (drawn (shape w) L b) L
  drawn_laid m v a r =
      let ws = words (shape w) (end_of (length b)) L in
      let e = length_draw w ws b in
      let rise = rise_words (shape w) (shape_good wd) (end_of (length b)) L v (omega arith) in
      record {
        magic = word_agree 8 (draw w ws b) b 0 (λ i k l. draw_out w ws b i (rise_outside w 8 ws (end_of (length b)) i rise l)) ∙ m;
        tiled = rw e v;
        aligned = a;
        shown = rw e (draw_shows w 8 ws (end_of (length b)) b rise (omega arith) (fit_words (shape w) (shape_good wd) (end_of (length b)) L v (omega arith)));
      }

  pub laid_drawn : Laid w b L → Bytes b → b ≡ drawn (shape w) L b
  laid_drawn k bytes = pictures.drawn w (words (shape w) (end_of (length b)) L) b b bytes refl k.shown (λ i l o. refl)

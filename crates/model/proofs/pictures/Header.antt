-- What stands before the data area once a layout is drawn: every byte behind the magic number is a word's, so it follows from the picture alone.
use Rattle.std.proofs.Common.{ℕ, ◌+◌, ◌*◌, ◌≤◌, ◌<◌, ◌≡◌, sym, ap, ◌∙◌, List, [], ◌∷◌, ◌++◌, append_assoc, arith, length, get_or}
use Rattle.std.proofs.Math.Decide.{dec_lt}
use Rattle.words.specs.Word.{put}
use Rattle.words.proofs.WordLaws.{put_over}
use Rattle.model.specs.Shape.{Shape, start, index}
use Rattle.model.specs.Parts.{data_at, index_at, first_free_at, end_at, index_tag_at, index_far_tag_at, index_tag}
use Rattle.model.specs.Picture.{Word, draw}
use Rattle.model.specs.Layout.{Layout, ends, first_free, block_words, head_words, fixed_low, fixed_high, words}
use Rattle.model.specs.inner.Laid.{Tiled}
use Rattle.model.proofs.pictures.Pictures.{Rise, Outside, outside_left, outside_right, rise_outside, draw_append, draw_out, draw_agree, put_draw}
use Rattle.model.proofs.blocks.Blocks.{rise_blocks}
use Rattle.model.proofs.blocks.Replace.{rise_front, front}

module _ (S : Shape) where
  -- the words before the blocks
  unfoldable headed : ℕ → ℕ → List (List ℕ) → List Word
  headed first end ls = fixed_low S ++ record { at = first_free_at S; is = first } ∷ fixed_high S end ls

  words_headed : (end : ℕ) (L : Layout) → words S end L ≡ headed (first_free S (start S) L.blocks 0) end L.lists ++ block_words S L.lists (start S) 0 0 L.blocks
  unfolding words headed
  words_headed end L = simp append_assoc

  -- they leave no byte between the magic number and the data area
  heads_cover : (p i : ℕ) (ls : List (List ℕ)) → p ≤ i → i < p + S.word * length ls → Outside S.word i (head_words S p ls) → ⊥
  unfolding head_words Outside
  heads_cover p i [] lo hi o = omega arith
  heads_cover p i (l ∷ ls) lo hi o = go (dec_lt i (p + S.word)) (heads_cover (p + S.word) i ls)
    where
      go : Dec (i < p + S.word) → (p + S.word ≤ i → i < p + S.word + S.word * length ls → Outside S.word i (head_words S (p + S.word) ls) → ⊥) → ⊥
      go (yes k) r = o.0 lo k
      go (no k) r = r (omega arith) (omega arith) o.1

  headed_covers : (first end i : ℕ) (ls : List (List ℕ)) → length ls ≡ S.classes → 8 ≤ i → i < start S → Outside S.word i (headed first end ls) → ⊥
  unfolding headed fixed_low fixed_high Outside
  headed_covers first end i ls e lo hi o = go (dec_lt i (index_at S)) (dec_lt i (first_free_at S)) (dec_lt i (end_at S)) (dec_lt i (index_tag_at S)) (dec_lt i (index S)) (dec_lt i (index_far_tag_at S))
    where
      heads : Outside S.word i (head_words S (index S) ls ++ record { at = index_far_tag_at S; is = index_tag S } ∷ [])
      heads = o.1.1.1.1.1

      go : Dec (i < index_at S) → Dec (i < first_free_at S) → Dec (i < end_at S) → Dec (i < index_tag_at S) → Dec (i < index S) → Dec (i < index_far_tag_at S) → ⊥
      go (yes k) b c d f g = o.0 lo k
      go (no a) (yes k) c d f g = o.1.0 (omega arith) (omega arith)
      go (no a) (no b) (yes k) d f g = o.1.1.0 (omega arith) (omega arith)
      go (no a) (no b) (no c) (yes k) f g = o.1.1.1.0 (omega arith) (omega arith)
      go (no a) (no b) (no c) (no d) (yes k) g = o.1.1.1.1.0 (omega arith) (omega arith)
      go (no a) (no b) (no c) (no d) (no f) (yes k) = heads_cover (index S) i ls (omega arith) (rw e (omega arith)) (outside_left S.word i (head_words S (index S) ls) (record { at = index_far_tag_at S; is = index_tag S } ∷ []) heads)
      go (no a) (no b) (no c) (no d) (no f) (no g) = (outside_right S.word i (head_words S (index S) ls) (record { at = index_far_tag_at S; is = index_tag S } ∷ []) heads).0 (omega arith) (omega arith)

  -- so what is drawn there follows from the first free block, the end and the lists
  headed_drawn : {end : ℕ} (L : Layout) → Tiled S end L → (f : ℕ) (b : List ℕ) (i : ℕ) → i < start S
      → get_or (draw S.word (words S f L) b) i 0 ≡ get_or (draw S.word (headed (first_free S (start S) L.blocks 0) f L.lists) b) i 0
  headed_drawn L v f b i l =
      let ws = headed (first_free S (start S) L.blocks 0) f L.lists in
      let bs = block_words S L.lists (start S) 0 0 L.blocks in
      rw (words_headed f L, draw_append S.word ws bs b)
      (draw_out S.word bs (draw S.word ws b) i (rise_outside S.word (start S) bs _ i (rise_blocks S L.lists (start S) 0 0 L.blocks v.allowed) l))

  pub header_drawn : {e f : ℕ} (L M : Layout) → Tiled S e L → Tiled S f M → M.lists ≡ L.lists → first_free S (start S) M.blocks 0 ≡ first_free S (start S) L.blocks 0
      → (end : ℕ) (b c : List ℕ) → start S ≤ length b → start S ≤ length c → (i : ℕ) → 8 ≤ i → i < start S
      → get_or (draw S.word (words S end M) c) i 0 ≡ get_or (draw S.word (words S end L) b) i 0
  header_drawn L M v u same first end b c k j i lo hi =
      headed_drawn M u end c i hi
      ∙ rw (same, first) (draw_agree S.word (headed (first_free S (start S) L.blocks 0) end L.lists) b c i (omega (arith, hi, k)) (omega (arith, hi, j)) (λ o. absurd (headed_covers _ end i L.lists v.classes lo hi o)))
      ∙ sym (headed_drawn L v end b i hi)

  -- the end written anew is the same layout drawn with another end
  pub end_put : {end : ℕ} (L : Layout) → Tiled S end L → (e f : ℕ) (b : List ℕ) → put S.word (draw S.word (words S e L) b) (end_at S) f ≡ draw S.word (words S f L) b
  unfolding words front fixed_low fixed_high draw Rise
  end_put L v e f b =
      let x = put S.word (put S.word (put S.word b (data_at S) (start S)) (index_at S) (index S)) (first_free_at S) (first_free S (start S) L.blocks 0) in
      let tags : List Word = record { at = index_tag_at S; is = index_tag S } ∷ (head_words S (index S) L.lists ++ record { at = index_far_tag_at S; is = index_tag S } ∷ []) in
      let behind : List Word = tags ++ block_words S L.lists (start S) 0 0 L.blocks in
      let rises : Rise S.word (end_at S + S.word) behind (ends S (start S) L.blocks) = (rise_front S e L.lists L.blocks 0 v.classes v.allowed).1.1.1.1 in
      put_draw S.word (end_at S + S.word) behind (ends S (start S) L.blocks) (put S.word x (end_at S) e) (end_at S) f rises (omega arith)
      ∙ ap (λ (d : List ℕ). draw S.word behind d) (put_over S.word x (end_at S) e f)

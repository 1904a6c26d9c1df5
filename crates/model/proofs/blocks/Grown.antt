-- A heap gets a new end: what is written is that end, the last block and the link to it.
use Rattle.std.proofs.Common.{ℕ, ◌+◌, ◌^◌, ◌≤◌, ◌<◌, ◌≡◌, refl, sym, ap, ◌∙◌, List, [], ◌∷◌, ◌++◌, append-nil, arith, length}
use Rattle.words.specs.Word.{put, Bytes}
use Rattle.words.proofs.WordLaws.{length_put, put_out, word_same, word_other, bytes_put}
use Rattle.model.specs.Shape.{Shape, start, index}
use Rattle.model.specs.Parts.{first_free_at, end_at, index_tag, index_tag_at, index_far_tag_at}
use Rattle.model.specs.Picture.{Word, Shows, draw}
use Rattle.model.specs.Layout.{Block, ends, first_free, block_words, head_words, fixed_low, fixed_high, words}
use Rattle.model.specs.Sound.{AllAllowed}
use Rattle.model.specs.inner.Walks.{last_free}
use Rattle.model.specs.inner.Links.{link_of}
use Rattle.model.specs.inner.Laid.{Tiled}
use Rattle.model.proofs.Good.{Good}
use Rattle.model.proofs.pictures.Pictures.{Rise, Outside, rise_clear, shows_append, outside_left, outside_right, shows_put, shows_draw, draw_shows, draw_out, length_draw, bytes_draw, drawn}
use Rattle.model.proofs.pictures.Drawn.{fit_blocks}
use Rattle.model.proofs.blocks.Blocks.{link_at, le_ends, ends_append, allowed_left, allowed_right, first_below, last_below, rise_blocks}
use Rattle.model.proofs.blocks.Middle.{link_place}
use Rattle.model.proofs.blocks.Replace.{front, front_put, front_out, three, Places, words_parts, rise_front}

module _ (S : Shape) (good : Good S) where
  -- the first part of a picture, once another end is written
  front_ended : (end to : ℕ) (ls : List (List ℕ)) (pre : List Block) (next : ℕ) (b : List ℕ) → length ls ≡ S.classes → AllAllowed S pre → start S ≤ length b → to < 256 ^ S.word
      → Shows S.word b (front S end ls pre next) → Shows S.word (put S.word b (end_at S) to) (front S to ls pre next)
  unfolding front fixed_low fixed_high Shows Rise
  front_ended end to ls pre next b e h r f s =
      let W = S.word in
      let x = end_at S in
      let rise = rise_front S end ls pre next e h in (
        word_other W b x to 8 (λ k l. omega arith) ∙ s.0,
        (
          word_other W b x to (8 + W) (λ k l. omega arith) ∙ s.1.0,
          (
            word_other W b x to (first_free_at S) (λ k l. omega arith) ∙ s.1.1.0,
            (word_same W b x to (omega (arith, r)) f, shows_put W b (x + W) (record { at = index_tag_at S; is = index_tag S } ∷ (head_words S (index S) ls ++ record { at = index_far_tag_at S; is = index_tag S } ∷ []) ++ block_words S ls (start S) 0 next pre) (ends S (start S) pre) x to rise.1.1.1.1 (λ k l. omega arith) s.1.1.1.1),
          ),
        ),
      )

  -- a byte outside it is not in the end's word
  ended_out : (end : ℕ) (ls : List (List ℕ)) (pre : List Block) (next i : ℕ) → Outside S.word i (front S end ls pre next) → end_at S ≤ i → i < end_at S + S.word → ⊥
  unfolding front fixed_low fixed_high Outside
  ended_out end ls pre next i o = o.1.1.1.0

  -- THE LAW: blocks `mid` written behind `pre`, up to another end, that end, and the link to them, draw the layout with these
  pub regrown : (end to : ℕ) (ls : List (List ℕ)) (pre mid : List Block) (p prev next : ℕ) (b : List ℕ) → Bytes b → to ≤ length b → to ≤ S.most
      → ends S (start S) pre ≡ p → last_free S (start S) pre 0 ≡ prev → Tiled S to (three S ls pre mid []) → Shows S.word b (front S end ls pre next)
      → draw S.word (record { at = link_of S prev; is = first_free S p mid 0 } ∷ block_words S ls p prev 0 mid) (put S.word b (end_at S) to)
      ≡ draw S.word (words S to (three S ls pre mid [])) b
  regrown end to ls pre mid p prev next b bytes inside short begins before will shown =
      let W = S.word in
      let v = first_free S p mid 0 in
      let x = link_at S (start S) pre (first_free_at S) in
      let ms = block_words S ls p prev 0 mid in
      let fr = front S to ls pre v in
      let apre = allowed_left S pre (mid ++ []) will.allowed in
      let amid = allowed_left S mid [] (allowed_right S pre (mid ++ []) will.allowed) in
      let fills : ends S p mid ≡ to = ap (λ (y : ℕ). ends S y mid) (sym begins) ∙ sym (ends_append S (start S) pre mid) ∙ ap (λ (bs : List Block). ends S (start S) (pre ++ bs)) (sym (append-nil mid)) ∙ will.fills in
      let sp : start S ≤ p = omega (arith, begins, le_ends S (start S) pre) in
      let pt : p ≤ to = omega (arith, fills, le_ends S p mid) in
      let prev-le : prev ≤ to = omega (arith, before, last_below S to (start S) pre 0 (omega (arith, begins)) (omega arith)) in
      let v-le = first_below S to p mid 0 (omega (arith, fills)) (omega arith) in
      let fits = good.fits to short in
      let c0 = put W b (end_at S) to in
      let e0 = length_put W b (end_at S) to in
      let c1 = put W c0 x v in
      let e1 = length_put W c0 x v in
      let c2 = draw W ms c1 in
      let fr0 = front_ended end to ls pre next b will.classes apre (omega (arith, sp)) (omega (arith, fits)) shown in
      let fr1 : Shows W c1 fr = front_put S to ls pre next v c0 will.classes apre (omega (arith, begins, e0)) (omega (arith, fits, v-le)) fr0 in
      let rf : Rise W 8 fr p = rw begins at (rise_front S to ls pre v will.classes apre) in
      let rm : Rise W p ms to = rw fills at (rise_blocks S ls p prev 0 mid amid) in
      let fr2 : Shows W c2 fr = shows_draw W c1 8 fr p ms rf (rise_clear W 8 p p ms to rm (λ k l. omega arith)) fr1 in
      let ms2 : Shows W c2 ms = draw_shows W p ms to c1 rm (omega (arith, e0, e1)) (fit_blocks S good to (three S ls pre mid []) will short p prev 0 mid amid (omega (arith, fills)) prev-le (omega arith)) in
      let places : Places S pre mid [] p to prev 0 = record { begins = begins; finishes = fills; before = before; behind = unfold first_free in refl } in
      let whole : words S to (three S ls pre mid []) ≡ fr ++ ms = words_parts S to ls pre mid [] p to prev 0 places ∙ ap (λ (ws : List Word). fr ++ ws) (unfold block_words in append-nil ms) in
      let same : draw W (record { at = link_of S prev; is = v } ∷ ms) c0 ≡ c2 = unfold draw in ap (λ (y : ℕ). draw W ms (put W c0 y v)) (link_place S pre prev before) in
      same ∙ rw whole
      (drawn W (fr ++ ms) b c2 (bytes_draw W ms c1 (bytes_put W c0 x v (bytes_put W b (end_at S) to bytes)))
      (length_draw W ms c1 ∙ e1 ∙ e0)
      (shows_append W c2 fr ms fr2 ms2)
      (λ i l o.
      let of = outside_left W i fr ms o in
      draw_out W ms c1 i (outside_right W i fr ms o)
      ∙ put_out W c0 x v i (front_out S to ls pre v i of)
      ∙ put_out W b (end_at S) to i (ended_out to ls pre v i of)))

-- Blocks in the middle of a heap are replaced by others: what is written is in them, and the two links that lead there from outside.
use Rattle.std.proofs.Common.{ℕ, ◌+◌, ◌-◌, ◌*◌, ◌^◌, ◌≤◌, ◌<◌, ◌≡◌, ◌∙◌, List, [], ◌∷◌, ◌++◌, append_assoc, ◌⊎◌, ⊎_elim, arith, length}
use Rattle.words.specs.Word.{put, Bytes}
use Rattle.words.proofs.WordLaws.{length_put, put_out, bytes_put}
use Rattle.model.specs.Picture.{Word, Shows, draw}
use Rattle.model.proofs.pictures.Pictures.{Rise, Outside, Inside, rise_down, rise_append, rise_clear, shows_append, shows_left, shows_right, outside_left, outside_right, shows_put, shows_draw, draw_append, draw_out, length_draw, bytes_draw, drawn, inside_clear}
use Rattle.model.specs.Shape.{Shape, start, index, tags}
use Rattle.model.specs.Parts.{first_free_at}
use Rattle.model.specs.Layout.{Block, Layout, ends, first_free, block_words, head_words, fixed_low, fixed_high, words}
use Rattle.model.proofs.blocks.Blocks.{link_at, back_words, le_ends, first_append, words_append, rise_blocks}
use Rattle.model.specs.inner.Walks.{last_free}
use Rattle.model.specs.Sound.{AllAllowed}
use Rattle.model.proofs.blocks.Links.{link_range, relink, reback, link_out, back_out, rise_back}

module _ (S : Shape) where
  pub rise_low : Rise S.word 8 (fixed_low S) (first_free_at S)
  unfolding Rise fixed_low
  rise_low = omega arith

  pub rise_heads : (p : ℕ) (ls : List (List ℕ)) (hi : ℕ) → p + S.word * length ls ≤ hi → Rise S.word p (head_words S p ls) hi
  unfolding Rise head_words
  rise_heads p [] hi h = omega arith
  rise_heads p (l ∷ ls) hi h = (omega arith, rise_heads (p + S.word) ls hi (omega arith))

  pub rise_high : (end : ℕ) (ls : List (List ℕ)) → length ls ≡ S.classes → Rise S.word (first_free_at S + S.word) (fixed_high S end ls) (start S)
  unfolding Rise fixed_high
  rise_high end ls e = (
    omega arith,
    (
      omega arith,
      rise_down S.word (8 + 4 * S.word + S.word) (index S) (head_words S (index S) ls ++ record { at = start S - S.word; is = S.word * S.classes + tags S + 3 } ∷ []) (start S) (omega arith)
          (rise_append S.word (index S) (head_words S (index S) ls) (index S + S.word * length ls) (record { at = start S - S.word; is = S.word * S.classes + tags S + 3 } ∷ []) (start S)
          (rise_heads (index S) ls (index S + S.word * length ls) (omega arith)) (rw e (omega arith))),
    ),
  )

  -- the picture of what stands below the blocks at the end of pre, after which the next free block stands at next
  unfoldable pub front : ℕ → List (List ℕ) → List Block → ℕ → List Word
  front end ls pre next =
      fixed_low S
      ++ record { at = first_free_at S; is = first_free S (start S) pre next }
      ∷ (fixed_high S end ls ++ block_words S ls (start S) 0 next pre)

  -- a layout whose blocks are in three runs
  abbrev pub three : List (List ℕ) → List Block → List Block → List Block → Layout
  three ls pre mid post = record { blocks = pre ++ (mid ++ post); lists = ls }

  words_three : (end : ℕ) (ls : List (List ℕ)) (pre mid post : List Block)
      → words S end (three ls pre mid post)
      ≡ front end ls pre (first_free S (ends S (start S) pre) mid (first_free S (ends S (ends S (start S) pre) mid) post 0))
      ++ (block_words S ls (ends S (start S) pre) (last_free S (start S) pre 0) (first_free S (ends S (ends S (start S) pre) mid) post 0) mid
      ++ block_words S ls (ends S (ends S (start S) pre) mid) (last_free S (ends S (start S) pre) mid (last_free S (start S) pre 0)) 0 post)
  unfolding words front
  words_three end ls pre mid post =
      rw (first_append S (start S) pre (mid ++ post) 0, words_append S ls (start S) 0 0 pre (mid ++ post), first_append S (ends S (start S) pre) mid post 0, words_append S ls (ends S (start S) pre) (last_free S (start S) pre 0) 0 mid post)
      (simp append_assoc)

  -- the same with the places named: p where the middle begins, q where it ends, prev and next the free blocks around it
  pub record Places (pre mid post : List Block) (p q prev next : ℕ) : Type 0 where
    pub begins : ends S (start S) pre ≡ p
    pub finishes : ends S p mid ≡ q
    pub before : last_free S (start S) pre 0 ≡ prev
    pub behind : first_free S q post 0 ≡ next

  pub words_parts : (end : ℕ) (ls : List (List ℕ)) (pre mid post : List Block) (p q prev next : ℕ) → Places pre mid post p q prev next
      → words S end (three ls pre mid post)
      ≡ front end ls pre (first_free S p mid next) ++ (block_words S ls p prev next mid ++ block_words S ls q (last_free S p mid prev) 0 post)
  words_parts end ls pre mid post p q prev next e =
      words_three end ls pre mid post ∙ rw (e.begins, e.finishes, e.before, e.behind)

  pub rise_front : (end : ℕ) (ls : List (List ℕ)) (pre : List Block) (next : ℕ) → length ls ≡ S.classes → AllAllowed S pre → Rise S.word 8 (front end ls pre next) (ends S (start S) pre)
  unfolding front
  rise_front end ls pre next e h =
      rise_append S.word 8 (fixed_low S) (first_free_at S) (record { at = first_free_at S; is = first_free S (start S) pre next } ∷ (fixed_high S end ls ++ block_words S ls (start S) 0 next pre)) (ends S (start S) pre) rise_low
      (unfold Rise in (
        omega arith,
        rise_append S.word (first_free_at S + S.word) (fixed_high S end ls) (start S) (block_words S ls (start S) 0 next pre) (ends S (start S) pre) (rise_high end ls e) (rise_blocks S ls (start S) 0 next pre h),
      ))

  -- the first part, once the link from it is written
  pub front_put : (end : ℕ) (ls : List (List ℕ)) (pre : List Block) (next v : ℕ) (b : List ℕ) → length ls ≡ S.classes → AllAllowed S pre → ends S (start S) pre ≤ length b → v < 256 ^ S.word
      → Shows S.word b (front end ls pre next) → Shows S.word (put S.word b (link_at S (start S) pre (first_free_at S)) v) (front end ls pre v)
  unfolding front Shows
  front_put end ls pre next v b e h r f s =
      let x = link_at S (start S) pre (first_free_at S) in
      let g = link_range S (start S) pre (first_free_at S) h in
      let rest = shows_right S.word b (fixed_low S) (record { at = first_free_at S; is = first_free S (start S) pre next } ∷ (fixed_high S end ls ++ block_words S ls (start S) 0 next pre)) s in
      let rl = relink S ls (start S) 0 next v pre (first_free_at S) b h (omega arith) r f rest.0 (shows_right S.word b (fixed_high S end ls) (block_words S ls (start S) 0 next pre) rest.1) in
      shows_append S.word (put S.word b x v) (fixed_low S) (record { at = first_free_at S; is = first_free S (start S) pre v } ∷ (fixed_high S end ls ++ block_words S ls (start S) 0 v pre))
      (shows_put S.word b 8 (fixed_low S) (first_free_at S) x v rise_low (λ k l. ⊎_elim (λ e. omega arith) (λ e. omega (arith, e.0)) g)
      (shows_left S.word b (fixed_low S) (record { at = first_free_at S; is = first_free S (start S) pre next } ∷ (fixed_high S end ls ++ block_words S ls (start S) 0 next pre)) s)) (
        rl.0,
        shows_append S.word (put S.word b x v) (fixed_high S end ls) (block_words S ls (start S) 0 v pre)
            (shows_put S.word b (first_free_at S + S.word) (fixed_high S end ls) (start S) x v (rise_high end ls e) (λ k l. ⊎_elim (λ e. omega arith) (λ e. omega (arith, e.0)) g)
            (shows_left S.word b (fixed_high S end ls) (block_words S ls (start S) 0 next pre) rest.1))
            rl.1,
      )

  pub front_out : (end : ℕ) (ls : List (List ℕ)) (pre : List Block) (next i : ℕ) → Outside S.word i (front end ls pre next)
      → link_at S (start S) pre (first_free_at S) ≤ i → i < link_at S (start S) pre (first_free_at S) + S.word → ⊥
  unfolding front Outside
  front_out end ls pre next i o =
      let rest = outside_right S.word i (fixed_low S) (record { at = first_free_at S; is = first_free S (start S) pre next } ∷ (fixed_high S end ls ++ block_words S ls (start S) 0 next pre)) o in
      link_out S ls (start S) 0 next pre (first_free_at S) i (outside_right S.word i (fixed_high S end ls) (block_words S ls (start S) 0 next pre) rest.1) rest.0

  -- what is written: the link to the middle's first free block, words in the middle, and the link back to its last
  abbrev pub changes : List Block → List Block → List Block → ℕ → ℕ → ℕ → ℕ → List Word → List Word
  changes pre mid post p q prev next cs =
      record { at = link_at S (start S) pre (first_free_at S); is = first_free S p mid next } ∷ cs ++ back_words S q post (last_free S p mid prev)

  pub replaced : (end : ℕ) (ls : List (List ℕ)) (pre old mid post : List Block) (p q prev next : ℕ) (b : List ℕ) (cs : List Word)
      → Places pre old post p q prev next → Places pre mid post p q prev next
      → Bytes b → length ls ≡ S.classes → AllAllowed S pre → AllAllowed S old → AllAllowed S mid → AllAllowed S post → ends S q post ≤ length b
      → first_free S p mid next < 256 ^ S.word → last_free S p mid prev < 256 ^ S.word
      → Inside S.word p q cs → ((i : ℕ) → Outside S.word i (block_words S ls p prev next mid) → Outside S.word i cs)
      → ((c : List ℕ) → length c ≡ length b → Shows S.word c (block_words S ls p prev next old) → Shows S.word (draw S.word cs c) (block_words S ls p prev next mid))
      → Shows S.word b (words S end (three ls pre old post))
      → draw S.word (changes pre mid post p q prev next cs) b ≡ draw S.word (words S end (three ls pre mid post)) b
  replaced end ls pre old mid post p q prev next b cs po pm bytes lsn apre aold amid apost room f1 f2 inn out now shown =
      let W = S.word in
      let v1 = first_free S p mid next in
      let v2 = last_free S p mid prev in
      let x = link_at S (start S) pre (first_free_at S) in
      let ms = block_words S ls p prev next mid in
      let os = block_words S ls p prev next old in
      let back = back_words S q post v2 in
      let ps = block_words S ls q v2 0 post in
      let olds = block_words S ls q (last_free S p old prev) 0 post in
      let fr = front end ls pre v1 in
      let pq : p ≤ q = rw pm.finishes at (le_ends S p mid) in
      let g : (x ≡ first_free_at S) ⊎ ((start S + W ≤ x) × (x + W ≤ p)) = rw pm.begins at (link_range S (start S) pre (first_free_at S) apre) in
      let sp : start S ≤ p = rw pm.begins at (le_ends S (start S) pre) in
      let qe = le_ends S q post in
      let s0 : Shows W b (front end ls pre (first_free S p old next) ++ (os ++ olds)) = rw (words_parts end ls pre old post p q prev next po) at shown in
      let s1 = shows_right W b (front end ls pre (first_free S p old next)) (os ++ olds) s0 in
      let c1 = put W b x v1 in
      let c2 = draw W cs c1 in
      let c3 = draw W back c2 in
      let e1 = length_put W b x v1 in
      let e2 = length_draw W cs c1 in
      let fr1 : Shows W c1 fr = front_put end ls pre (first_free S p old next) v1 b lsn apre (rw pm.begins (omega arith)) f1 (shows_left W b (front end ls pre (first_free S p old next)) (os ++ olds) s0) in
      let os1 : Shows W c1 os = shows_put W b p os q x v1 (rw po.finishes at (rise_blocks S ls p prev next old aold)) (λ k l. ⊎_elim (λ e. omega arith) (λ e. omega (arith, e.1)) g) (shows_left W b os olds s1) in
      let ps1 : Shows W c1 olds = shows_put W b q olds (ends S q post) x v1 (rise_blocks S ls q (last_free S p old prev) 0 post apost) (λ k l. ⊎_elim (λ e. omega arith) (λ e. omega (arith, e.1)) g) (shows_right W b os olds s1) in
      let rf : Rise W 8 fr p = rw pm.begins at (rise_front end ls pre v1 lsn apre) in
      let rm : Rise W p ms q = rw pm.finishes at (rise_blocks S ls p prev next mid amid) in
      let rb = rise_back S q post v2 apost in
      let fr2 = shows_draw W c1 8 fr p cs rf (inside_clear W 8 p p q cs inn (λ k l. omega arith)) fr1 in
      let ms2 = now c1 e1 os1 in
      let ps2 = shows_draw W c1 q olds (ends S q post) cs (rise_blocks S ls q (last_free S p old prev) 0 post apost) (inside_clear W q (ends S q post) p q cs inn (λ k l. omega arith)) ps1 in
      let fr3 = shows_draw W c2 8 fr p back rf (rise_clear W 8 p q back (ends S q post) rb (λ k l. omega arith)) fr2 in
      let ms3 = shows_draw W c2 p ms q back rm (rise_clear W p q q back (ends S q post) rb (λ k l. omega arith)) ms2 in
      let ps3 = reback S ls q (last_free S p old prev) 0 v2 post c2 apost (omega arith) f2 ps2 in
      let same : draw W (changes pre mid post p q prev next cs) b ≡ c3 = unfold draw in draw_append W cs back c1 in
      same ∙ rw (words_parts end ls pre mid post p q prev next pm)
      (drawn W (fr ++ (ms ++ ps)) b c3 (bytes_draw W back c2 (bytes_draw W cs c1 (bytes_put W b x v1 bytes)))
      (length_draw W back c2 ∙ e2 ∙ e1)
      (shows_append W c3 fr (ms ++ ps) fr3 (shows_append W c3 ms ps ms3 ps3))
      (λ i l o.
      let o2 = outside_right W i fr (ms ++ ps) o in
      draw_out W back c2 i (back_out S ls q v2 0 v2 post i (outside_right W i ms ps o2))
      ∙ draw_out W cs c1 i (out i (outside_left W i ms ps o2))
      ∙ put_out W b x v1 i (front_out end ls pre v1 i (outside_left W i fr (ms ++ ps) o))))

-- A free block is taken for a block in use, whole or its low end: what is read of it, what is written, and that this draws the new layout.
use Rattle.std.proofs.Common.{ℕ, ◌+◌, ◌-◌, ◌*◌, ◌%◌, ◌≤◌, ◌<◌, ◌≡◌, refl, cond, List, [], ◌∷◌, ◌++◌, arith, ltb, le-leb, lt-ltb, le-ltb}
use Rattle.std.proofs.Math.Decide.{dec_le, dec_lt}
use Rattle.std.proofs.lemmas.Bool.{lt-leb}
use Rattle.words.specs.Word.{word_at, Bytes}
use Rattle.model.specs.Shape.{Shape, start, least_free}
use Rattle.model.specs.Picture.{Word, Shows, draw}
use Rattle.model.specs.Layout.{Use, Block, free, used, use_size, size_of, ends, first_free, use_words, own, block_words, words}
use Rattle.model.specs.Sound.{AllowedUse, Allowed, AllAllowed, idle_in, Valid}
use Rattle.model.specs.Rules.{Spot, cut, placed}
use Rattle.model.specs.inner.Walks.{last_free}
use Rattle.model.proofs.blocks.Replace.{three}
use Rattle.model.proofs.blocks.Remade.{split_valid, whole_valid}
use Rattle.model.proofs.blocks.Middle.{Middle, all_old, end_le, old_shown, rewritten}
use Rattle.model.specs.inner.Links.{link_of, back_of, put_if, takes, rest_at}
use Rattle.model.proofs.Good.{Good}
use Rattle.model.proofs.pictures.Drawn.{tiled}

module _ (S : Shape) where
  -- the words of the free rest
  abbrev pub rest_words : ℕ → ℕ → ℕ → ℕ → ℕ → List Word
  rest_words u s p prev next = cond (ltb u s) (own S [] (p + u) prev next (free (s - u))) []

  -- what a free block of size s becomes: the block in use, which takes S u of it, and the free rest
  abbrev pub parts : ℕ → ℕ → Use → List Block
  parts u s U = cond (ltb u s) (used U ∷ free (s - u) ∷ []) (used U ∷ [])

  -- the rule's blocks are these
  pub placed_parts : (need : ℕ) (make : ℕ → Use) (t : Spot) → Good S → need ≤ t.size
      → placed S need (λ (s : ℕ). used (make s)) t ≡ t.pre ++ (parts (takes S need t.size) t.size (make (takes S need t.size)) ++ t.post)
  unfolding cut
  placed_parts need make t good l = go (dec_le (need + least_free S) t.size)
    where
      go : Dec (need + least_free S ≤ t.size) → placed S need (λ (s : ℕ). used (make s)) t ≡ t.pre ++ (parts (takes S need t.size) t.size (make (takes S need t.size)) ++ t.post)
      go (yes e) = rw (le-leb (need + least_free S) t.size e, lt-ltb need t.size (omega arith))
      go (no e) = rw (lt-leb (need + least_free S) t.size (omega arith), le-ltb t.size t.size (omega arith))

  -- what is taken where enough remains, and where too little does
  pub takes_low : (need s : ℕ) → need + least_free S ≤ s → need ≡ takes S need s
  takes_low need s l = rw (le-leb (need + least_free S) s l) refl

  pub takes_whole : (need s : ℕ) → s < need + least_free S → s ≡ takes S need s
  takes_whole need s l = rw (lt-leb (need + least_free S) s l) refl

  -- the part that is taken is large enough, and leaves nothing or enough
  pub record Takes (need s u : ℕ) : Type 0 where
    pub enough : need ≤ u
    pub within : u ≤ s
    pub rest : u < s → u + least_free S ≤ s
    pub under : 0 < S.word → u < need + least_free S

  pub takes_of : (need s : ℕ) → need ≤ s → Takes need s (takes S need s)
  takes_of need s l = go (dec_le (need + least_free S) s)
    where
      go : Dec (need + least_free S ≤ s) → Takes need s (takes S need s)
      go (yes e) = rw (le-leb (need + least_free S) s e) (record { enough = omega arith; within = l; rest = λ _. e; under = λ w. omega arith })
      go (no e) = rw (lt-leb (need + least_free S) s (omega arith)) (record { enough = l; within = omega arith; rest = λ k. absurd (omega arith); under = λ w. omega arith })

  pub takes_eight : (need s : ℕ) → need % 8 ≡ 0 → s % 8 ≡ 0 → takes S need s % 8 ≡ 0
  takes_eight need s e f = go (dec_le (need + least_free S) s)
    where
      go : Dec (need + least_free S ≤ s) → takes S need s % 8 ≡ 0
      go (yes k) = rw (le-leb (need + least_free S) s k) e
      go (no k) = rw (lt-leb (need + least_free S) s (omega arith)) f

  module _ {b : List ℕ} {end : ℕ} {ls : List (List ℕ)} {pre old post : List Block} {p q prev next : ℕ} (m : Middle S b end ls pre old post p q prev next) (s : ℕ) (extent : p + s ≡ q) where
    taken_split : (U : Use) → use_size S U < s → Good S → Bytes b → end ≤ S.most
        → Valid S end (three S ls pre (used U ∷ free (s - use_size S U) ∷ []) post)
        → put_if S (draw S.word (record { at = link_of S prev; is = p + use_size S U } ∷ (use_words S ls p U ++ own S [] (p + use_size S U) prev next (free (s - use_size S U)))) b) (back_of S b next) (p + use_size S U)
        ≡ draw S.word (words S end (three S ls pre (used U ∷ free (s - use_size S U) ∷ []) post)) b
    unfolding block_words own first_free last_free size_of ends
    taken_split U l good bytes short v = rewritten S m (used U ∷ free (s - use_size S U) ∷ []) (omega (arith, extent)) good bytes short (tiled S v)

    taken_whole : (U : Use) → use_size S U ≡ s → Good S → Bytes b → end ≤ S.most
        → Valid S end (three S ls pre (used U ∷ []) post)
        → put_if S (draw S.word (record { at = link_of S prev; is = next } ∷ (use_words S ls p U ++ [])) b) (back_of S b next) prev
        ≡ draw S.word (words S end (three S ls pre (used U ∷ []) post)) b
    unfolding block_words own first_free last_free size_of ends
    taken_whole U l good bytes short v = rewritten S m (used U ∷ []) (omega (arith, extent)) good bytes short (tiled S v)

    -- THE LAW: in place of blocks of the extent s, the link, a block in use, a free rest and the link back written draw the layout with them
    pub took_of : (u : ℕ) (U : Use) → use_size S U ≡ u → u ≤ s → Good S → Bytes b → end ≤ S.most → Valid S end (three S ls pre (parts u s U) post)
        → put_if S (draw S.word (record { at = link_of S prev; is = rest_at S u s p next } ∷ (use_words S ls p U ++ rest_words u s p prev next)) b) (back_of S b next) (rest_at S u s p prev)
        ≡ draw S.word (words S end (three S ls pre (parts u s U) post)) b
    took_of u U e l good bytes short v = go (dec_lt u s)
      where
        go : Dec (u < s)
            → put_if S (draw S.word (record { at = link_of S prev; is = rest_at S u s p next } ∷ (use_words S ls p U ++ rest_words u s p prev next)) b) (back_of S b next) (rest_at S u s p prev)
            ≡ draw S.word (words S end (three S ls pre (parts u s U) post)) b
        go (yes k) =
            let w : Valid S end (three S ls pre (used U ∷ free (s - use_size S U) ∷ []) post) = rw e (rw (lt-ltb u s k) at v) in
            rw (lt-ltb u s k, ← e) (taken_split U (omega arith) good bytes short w)
        go (no k) = rw (le-ltb u s (omega arith)) (taken_whole U (omega arith) good bytes short (rw (le-ltb u s (omega arith)) at v))

  module _ {b : List ℕ} {end : ℕ} {ls : List (List ℕ)} {pre post : List Block} {s p q prev next : ℕ} (m : Middle S b end ls pre (free s ∷ []) post p q prev next) where
    -- what stands in the free block
    pub size_there : word_at S.word b p ≡ s
    unfolding block_words own Shows
    size_there = (old_shown S m).0

    pub next_there : word_at S.word b (p + S.word) ≡ next
    unfolding block_words own Shows first_free
    next_there = (old_shown S m).1.0

    pub prev_there : word_at S.word b (p + s - 2 * S.word) ≡ prev
    unfolding block_words own Shows first_free
    prev_there = (old_shown S m).1.1.0

    pub size_least : 4 * S.word ≤ s
    unfolding AllAllowed Allowed
    size_least = (all_old S m).0.0

    pub size_eight : s % 8 ≡ 0
    unfolding AllAllowed Allowed
    size_eight = (all_old S m).0.1

    pub ends_there : p + s ≡ q
    unfolding ends size_of
    ends_there = m.places.finishes

    pub block_in : p + s ≤ end
    block_in = omega (arith, ends_there, end_le S m)

    -- the same of one free block
    pub took : (u : ℕ) (U : Use) → use_size S U ≡ u → u ≤ s → Good S → Bytes b → end ≤ S.most → Valid S end (three S ls pre (parts u s U) post)
        → put_if S (draw S.word (record { at = link_of S prev; is = rest_at S u s p next } ∷ (use_words S ls p U ++ rest_words u s p prev next)) b) (back_of S b next) (rest_at S u s p prev)
        ≡ draw S.word (words S end (three S ls pre (parts u s U) post)) b
    took u U e l good bytes short v = took_of m s ends_there u U e l good bytes short v

  module _ (end : ℕ) (ls : List (List ℕ)) (pre post : List Block) (s u : ℕ) (U : Use) where
    -- the new layout is valid where the block in use has no free item
    pub parts_valid : Valid S end (three S ls pre (free s ∷ []) post) → AllowedUse S U → use_size S U ≡ u → u ≤ s → (u < s → u + least_free S ≤ s) → u % 8 ≡ 0
        → ((c : ℕ) → idle_in S c (ends S (start S) pre) (used U) ≡ []) → Valid S end (three S ls pre (parts u s U) post)
    parts_valid v a e l r eight none = go (dec_lt u s)
      where
        go : Dec (u < s) → Valid S end (three S ls pre (parts u s U) post)
        go (yes k) = rw (lt-ltb u s k, ← e) (split_valid S end ls pre post s U v a (omega (arith, r k)) (omega arith) none)
        go (no k) = rw (le-ltb u s (omega arith)) (whole_valid S end ls pre post s U v a (omega arith) none)

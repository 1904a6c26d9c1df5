-- A free block is read, and a block in use written in its place: the words of links, tags and rest.
use Rattle.std.proofs.Common.{ℕ, ◌+◌, ◌-◌, ◌^◌, ◌<◌, ◌≤◌, ◌≡◌, sym, ap, ◌∙◌, List, [], ◌∷◌, ◌++◌, append_assoc, ⊎_elim, arith, length, lt-ltb, le-ltb}
use Rattle.words.specs.Width.{Width}
use Rattle.words.specs.Word.{word_at, put, Bytes}
use Rattle.model.specs.Shape.{shape, tags, least_free}
use Rattle.model.specs.Parts.{page_kind, tag_of, far_tag_at, previous_at}
use Rattle.model.specs.Picture.{Word, draw}
use Rattle.model.specs.Layout.{Use, Block, free, use_size, own, use_words, words}
use Rattle.model.specs.Sound.{Valid}
use Rattle.model.proofs.Good.{shape_good}
use Rattle.model.proofs.pictures.Pictures.{draw_append}
use Rattle.model.proofs.blocks.Replace.{three}
use Rattle.model.proofs.blocks.Middle.{Middle, end_le, link_in, prev_in, next_in_lem, back_in}
use Rattle.model.specs.inner.Links.{link_of, back_of, put_if, takes, rest_at}
use Rattle.model.proofs.blocks.Taken.{takes_of, rest_words, parts, size_there, next_there, prev_there, size_least, ends_there, block_in, took_of}
use Rattle.placing.specs.declared.Gap.{Gap}
use Rattle.links.specs.Links.{free_words}
use Rattle.placing.specs.Blocks.{GapRoom, GapRead, PartRoom, low_words, high_words}

module _ (w : ℕ) (g : Gap) (u kind : ℕ) (b : List ℕ) where
  -- the words up to the payload: with a free rest, and without
  pub low_rest : u < g.size → (first : ℕ) (h₁ h₂ : List ℕ) → first ≡ g.at.0 + u → h₁ ≡ put w b g.link.0 first → h₂ ≡ put w h₁ g.at.0 (tag_of u kind) → h₂ ≡ draw w (low_words w g u kind) b
  unfolding low_words draw
  low_rest l first h₁ h₂ e e₁ e₂ = rw (lt-ltb u g.size l, e₂, e₁, e)

  pub low_whole : g.size ≤ u → (first : ℕ) (h₁ h₂ : List ℕ) → first ≡ g.next.0 → h₁ ≡ put w b g.link.0 first → h₂ ≡ put w h₁ g.at.0 (tag_of u kind) → h₂ ≡ draw w (low_words w g u kind) b
  unfolding low_words draw
  low_whole l first h₁ h₂ e e₁ e₂ = rw (le-ltb u g.size l, e₂, e₁, e)

  -- the words after it
  pub high_rest : u < g.size → (h₁ h₂ h₃ : List ℕ) → h₁ ≡ put w b (far_tag_at (shape w) g.at.0 u) (tag_of u kind) → h₂ ≡ draw w (free_words w (g.at.0 + u) (g.size - u) g.prev.0 g.next.0) h₁
      → h₃ ≡ put_if (shape w) h₂ g.back.0 (g.at.0 + u) → h₃ ≡ put_if (shape w) (draw w (high_words w g u kind) b) g.back.0 (rest_at (shape w) u g.size g.at.0 g.prev.0)
  unfolding high_words draw
  high_rest l h₁ h₂ h₃ e₁ e₂ e₃ = rw (lt-ltb u g.size l, e₃, e₂, e₁)

  pub high_whole : g.size ≤ u → (h₁ h₂ : List ℕ) → h₁ ≡ put w b (far_tag_at (shape w) g.at.0 u) (tag_of u kind) → h₂ ≡ put_if (shape w) h₁ g.back.0 g.prev.0
      → h₂ ≡ put_if (shape w) (draw w (high_words w g u kind) b) g.back.0 (rest_at (shape w) u g.size g.at.0 g.prev.0)
  unfolding high_words draw
  high_whole l h₁ h₂ e₁ e₂ = rw (le-ltb u g.size l, e₂, e₁)

-- the gap g is what stands from p on, of size s, between the free blocks at prev and next
pub record GapIs (w : ℕ) (b : List ℕ) (p s prev next : ℕ) (g : Gap) : Type 0 where
  pub at : g.at.0 ≡ p
  pub size : g.size ≡ s
  pub next_is : g.next.0 ≡ next
  pub prev_is : g.prev.0 ≡ prev
  pub link : g.link.0 ≡ link_of (shape w) prev
  pub back : g.back.0 ≡ back_of (shape w) b next

-- of any blocks in the middle, of the extent s
module _ {w : ℕ} (wd : Width w) {b : List ℕ} {end : ℕ} {ls : List (List ℕ)} {pre old post : List Block} {p q prev next : ℕ} (m : Middle (shape w) b end ls pre old post p q prev next) (s : ℕ) (extent : p + s ≡ q) (g : Gap) (r : GapIs w b p s prev next g) where
  -- a block of size u has room in them
  pub part_room : (u kind n : ℕ) → n ≡ length b → length b + page_kind < 2 ^ 64 → u ≤ s → (u < s → u + least_free (shape w) ≤ s) → tags (shape w) ≤ u → kind ≤ page_kind → PartRoom w n g u kind
  part_room u kind n en small l rest low k =
      record {
        width = wd;
        small = omega arith;
        inside = omega (arith, r.at, r.size, end_le (shape w) m, m.inside);
        part = omega (arith, r.size);
        least = low;
        rest = λ z. omega (arith, r.size, rest (omega (arith, r.size)));
        tag = k;
        linked = rw r.link (omega (arith, link_in (shape w) m, end_le (shape w) m, m.inside));
        behind = rw r.back (omega (arith, back_in (shape w) m (omega arith), m.inside));
      }

  -- what a need takes of them has room
  pub part_need : (need u kind n : ℕ) → need ≤ s → u ≡ takes (shape w) need g.size → n ≡ length b → length b + page_kind < 2 ^ 64 → tags (shape w) ≤ need → kind ≤ page_kind → PartRoom w n g u kind
  part_need need u kind n l eu en small low k =
      let z = takes_of (shape w) need s l in
      let u_is : u ≡ takes (shape w) need s = eu ∙ ap (λ (x : ℕ). takes (shape w) need x) r.size in
      part_room u kind n en small (omega (arith, u_is, z.within)) (λ j. rw u_is (z.rest (rw u_is at j))) (omega (arith, u_is, z.enough)) k

  -- its words in the order in which they are written
  part_words : (u kind : ℕ) (U : Use) (inner : List Word) → use_words (shape w) ls p U ≡ record { at = p; is = tag_of u kind } ∷ (inner ++ (record { at = far_tag_at (shape w) p u; is = tag_of u kind } ∷ []))
      → low_words w g u kind ++ (inner ++ high_words w g u kind) ≡ record { at = link_of (shape w) prev; is = rest_at (shape w) u s p next } ∷ (use_words (shape w) ls p U ++ rest_words (shape w) u s p prev next)
  unfolding low_words high_words free_words own
  part_words u kind U inner eU =
      rw (r.link, r.at, r.size, r.next_is, r.prev_is, eU)
      (ap (λ (l : List Word). record { at = link_of (shape w) prev; is = rest_at (shape w) u s p next } ∷ record { at = p; is = tag_of u kind } ∷ l)
      (sym (append_assoc inner (record { at = far_tag_at (shape w) p u; is = tag_of u kind } ∷ []) (rest_words (shape w) u s p prev next))))

  -- and they draw the layout with it
  pub part_drawn : (u kind : ℕ) (U : Use) (inner : List Word) → use_size (shape w) U ≡ u → u ≤ s
      → use_words (shape w) ls p U ≡ record { at = p; is = tag_of u kind } ∷ (inner ++ (record { at = far_tag_at (shape w) p u; is = tag_of u kind } ∷ []))
      → Bytes b → length b ≤ (shape w).most → Valid (shape w) end (three (shape w) ls pre (parts (shape w) u s U) post)
      → (h₁ h₂ h₃ : List ℕ) → h₁ ≡ draw w (low_words w g u kind) b → h₂ ≡ draw w inner h₁ → h₃ ≡ put_if (shape w) (draw w (high_words w g u kind) h₂) g.back.0 (rest_at (shape w) u g.size g.at.0 g.prev.0)
      → h₃ ≡ draw w (words (shape w) end (three (shape w) ls pre (parts (shape w) u s U) post)) b
  part_drawn u kind U inner eu l eU bytes short v h₁ h₂ h₃ e₁ e₂ e₃ =
      let ws : List Word = record { at = link_of (shape w) prev; is = rest_at (shape w) u s p next } ∷ (use_words (shape w) ls p U ++ rest_words (shape w) u s p prev next) in
      let low = low_words w g u kind in
      let high = high_words w g u kind in
      let all : draw w high h₂ ≡ draw w ws b =
      rw (e₂, e₁) (sym (draw_append w inner high (draw w low b)) ∙ sym (draw_append w low (inner ++ high) b) ∙ ap (λ (l : List Word). draw w l b) (part_words u kind U inner eU)) in
      e₃ ∙ rw (all, r.back, r.size, r.at, r.prev_is) (took_of (shape w) m s extent u U eu l (shape_good wd) bytes (omega (arith, m.inside)) v)

module _ {w : ℕ} (wd : Width w) {b : List ℕ} {end : ℕ} {ls : List (List ℕ)} {pre post : List Block} {s p q prev next : ℕ} (m : Middle (shape w) b end ls pre (free s ∷ []) post p q prev next) where
  -- the free block can be read
  pub gap_room : GapRoom w b p
  gap_room =
      let e = size_there (shape w) m in
      let f : word_at w b (previous_at (shape w) p (word_at w b p)) ≡ prev = rw e (prev_there (shape w) m) in
      record {
        width = wd;
        least = omega (arith, e, size_least (shape w) m);
        inside = omega (arith, e, block_in (shape w) m, m.inside);
        prev_low = omega (arith, f, prev_in (shape w) m, block_in (shape w) m, m.inside);
        behind = rw (next_there (shape w) m) (record { width = wd; block = λ z. ⊎_elim (λ k. absurd (z k)) (λ k. (omega (arith, k.least), omega (arith, k.high, m.inside))) (next_in_lem (shape w) m) });
      }

  module _ (g : Gap) (r : GapRead w b p g) where
    pub s_is : g.size ≡ s
    s_is = r.size ∙ size_there (shape w) m

    n_is : g.next.0 ≡ next
    n_is = r.next ∙ next_there (shape w) m

    p_is : g.prev.0 ≡ prev
    p_is = r.prev ∙ (rw s_is (prev_there (shape w) m))

    gap_is : GapIs w b p s prev next g
    gap_is =
        record {
          at = r.at;
          size = s_is;
          next_is = n_is;
          prev_is = p_is;
          link = r.link ∙ ap (λ (x : ℕ). link_of (shape w) x) p_is;
          back = r.back ∙ ap (λ (x : ℕ). back_of (shape w) b x) n_is;
        }

    -- what a need takes of it has room
    pub need_part : (need u kind n : ℕ) → need ≤ s → u ≡ takes (shape w) need g.size → n ≡ length b → length b + page_kind < 2 ^ 64 → tags (shape w) ≤ need → kind ≤ page_kind → PartRoom w n g u kind
    need_part = part_need wd m s (ends_there (shape w) m) g gap_is

    -- and a block written in it draws the layout with that
    pub gap_drawn : (u kind : ℕ) (U : Use) (inner : List Word) → use_size (shape w) U ≡ u → u ≤ s
        → use_words (shape w) ls p U ≡ record { at = p; is = tag_of u kind } ∷ (inner ++ (record { at = far_tag_at (shape w) p u; is = tag_of u kind } ∷ []))
        → Bytes b → length b ≤ (shape w).most → Valid (shape w) end (three (shape w) ls pre (parts (shape w) u s U) post)
        → (h₁ h₂ h₃ : List ℕ) → h₁ ≡ draw w (low_words w g u kind) b → h₂ ≡ draw w inner h₁ → h₃ ≡ put_if (shape w) (draw w (high_words w g u kind) h₂) g.back.0 (rest_at (shape w) u g.size g.at.0 g.prev.0)
        → h₃ ≡ draw w (words (shape w) end (three (shape w) ls pre (parts (shape w) u s U) post)) b
    gap_drawn = part_drawn wd m s (ends_there (shape w) m) g gap_is

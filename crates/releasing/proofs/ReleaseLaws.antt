-- A block is given back: what is read around it, and what is written for it.
use Rattle.std.proofs.Common.{ℕ, ◌+◌, ◌-◌, ◌%◌, ◌<◌, ◌≤◌, ◌≡◌, refl, sym, ap, subst, ◌∙◌, Bool, true, false, List, [], ◌∷◌, ◌++◌, append_assoc, append-nil, ◌⊎◌, inl, inr, ⊎_elim, arith, length, eq-eqb, ne_eqb}
use Rattle.std.proofs.Math.Decide.{ℕ_discrete}
use Rattle.words.specs.Width.{Width}
use Rattle.words.specs.Word.{word_at, Bytes}
use Rattle.model.specs.Shape.{shape, end_of, start, tags, least_free}
use Rattle.model.specs.Parts.{next_at, previous_at}
use Rattle.model.specs.Layout.{Use, variable, Block, free, used, Layout, use_size, size_of, ends, first_free, own, block_words}
use Rattle.model.specs.Sound.{Allowed, AllAllowed, Apart, Here, Sound}
use Rattle.model.specs.inner.Laid.{Tiled, Laid}
use Rattle.model.specs.Rules.{Spot, block, released, freed}
use Rattle.model.specs.Calls.{drawn}
use Rattle.model.proofs.Good.{shape_good}
use Rattle.model.proofs.blocks.Blocks.{ends_append, last_append}
use Rattle.model.specs.inner.Walks.{flag, last_free, ends_free}
use Rattle.model.proofs.blocks.Replace.{three}
use Rattle.model.proofs.blocks.Valid.{apart_right}
use Rattle.model.proofs.blocks.Middle.{Middle, middle_in, FreeAt, start_le, middle_le, end_le, link_in, prev_in, next_in_lem, back_in, all_old, all_post, free_read, link_shown, rewritten}
use Rattle.model.specs.inner.Links.{link_of}
use Rattle.model.proofs.pictures.Drawn.{drawn_here}
use Rattle.model.proofs.items.Aligned.{laid}
use Rattle.model.proofs.walks.Standing.{sizes}
use Rattle.model.proofs.walks.Finding.{block_found}
use Rattle.model.proofs.blocks.Releasing.{Side, nobody, neighbour, left_side, right_side, right_not, old, sides_blocks, left_clear, released_is, ends_old, released_tiled, freed_block_valid}
use Rattle.find.specs.declared.UsedBlock.{UsedBlock}
use Rattle.find.specs.Find.{BlockFound}
use Rattle.links.specs.Links.{LinkRoom, free_words, linked_bytes}
use Rattle.releasing.specs.Release.{left_at, left_free, right_at, right_free, RightRoom, BlockAt, BlockIn, GivenBack, BlockLive}
use Rattle.model.proofs.Sizes.{most_bound}

-- the edges, by cases
module _ (w : ℕ) (b : List ℕ) (p prev : ℕ) (touching : Bool) where
  pub left_touching : touching ≡ true → (at v : ℕ) → at ≡ previous_at (shape w) prev (p - prev) → v ≡ word_at w b at → (prev ≡ left_at p prev touching) × (v ≡ left_free w b p prev touching)
  left_touching e at v g f = rw e (refl, rw g at f)

  pub left_apart : touching ≡ false → (p ≡ left_at p prev touching) × (prev ≡ left_free w b p prev touching)
  left_apart e = rw e (refl, refl)

module _ (w : ℕ) (b : List ℕ) (q next : ℕ) where
  pub right_touching : next ≡ q → (y at v : ℕ) → y ≡ word_at w b q → at ≡ next_at (shape w) q → v ≡ word_at w b at → (q + y ≡ right_at w b q next) × (v ≡ right_free w b q next)
  right_touching e y at v f k g = rw (eq-eqb next q e) (ap (λ (x : ℕ). q + x) f, rw k at g)

  pub right_apart : (next ≡ q → ⊥) → (q ≡ right_at w b q next) × (next ≡ right_free w b q next)
  right_apart n = rw (ne_eqb next q n) (refl, refl)

-- the block between its neighbours
pub record Joining (w : ℕ) (b : List ℕ) (L : Layout) (t : Spot) (from to before behind : ℕ) : Type 0 where
  pub pre : List Block
  pub lefts : List Block
  pub rights : List Block
  pub post : List Block
  pub l : ℕ
  pub r : ℕ
  pub left : Side lefts l
  pub right : Side rights r
  pub pre_is : t.pre ≡ pre ++ lefts
  pub post_is : t.post ≡ rights ++ post
  pub clear_left : ends_free 0 pre ≡ 0
  pub clear_right : Apart 1 post
  pub begins : ends (shape w) (start (shape w)) pre ≡ from
  pub reach : from + l ≡ ends (shape w) (start (shape w)) t.pre
  pub extent : from + (l + (t.size + r)) ≡ to
  pub before_is : last_free (shape w) (start (shape w)) pre 0 ≡ before
  pub behind_is : first_free (shape w) to post 0 ≡ behind

positive : {w : ℕ} → Width w → (x : Block) → Allowed (shape w) x → 0 < size_of (shape w) x
positive wd x a = omega (arith, (sizes wd x a).0)

-- what code knows of the block x that was found
module _ {w : ℕ} (wd : Width w) (b : List ℕ) (L : Layout) (t : Spot) (u : Use) (x : UsedBlock) (h : Laid w b L) (f : BlockAt w L t u x) where
  pub at : ℕ
  at = x.at.0

  pub stop : ℕ
  stop = x.at.0 + x.size

  -- the block itself in the middle
  pub self : Middle (shape w) b (end_of (length b)) L.lists t.pre (used u ∷ []) t.post x.at.0 (x.at.0 + x.size) x.prev.0 (first_free (shape w) (x.at.0 + x.size) t.post 0)
  unfolding ends size_of
  self =
      middle_in (shape w) b L t.pre (used u ∷ []) t.post x.at.0 (x.at.0 + x.size) x.prev.0 (first_free (shape w) (x.at.0 + x.size) t.post 0) h.tiled h.shown f.blocks
      (record { begins = f.at; finishes = ap (λ (y : ℕ). x.at.0 + y) (f.fits ∙ f.size); before = f.before; behind = refl })

  -- its size is one of a block
  pub use_sizes : (least_free (shape w) ≤ t.size) × (t.size % 8 ≡ 0)
  unfolding AllAllowed size_of
  use_sizes = rw (← f.fits) (sizes wd (used u) (all_old (shape w) self).0)

  -- the link to it names the next free block
  pub next_free : (n : ℕ) → n ≡ word_at w b (link_of (shape w) x.prev.0) → n ≡ first_free (shape w) (x.at.0 + x.size) t.post 0
  unfolding first_free
  next_free n e = e ∙ link_shown (shape w) self

  whole_apart : Apart 0 (t.pre ++ (used u ∷ t.post))
  whole_apart = subst (λ (l : List Block). Apart 0 l) f.blocks h.tiled.apart

  post_apart : Apart 0 t.post
  unfolding Apart
  post_apart = (apart_right 0 t.pre (used u ∷ t.post) whole_apart).1

  -- the left neighbour
  record LeftOf (from before : ℕ) : Type 0 where
    pre : List Block
    lefts : List Block
    l : ℕ
    side : Side lefts l
    pre_is : t.pre ≡ pre ++ lefts
    known : (ends_free 0 t.pre ≡ 0) ⊎ (1 ≤ l)
    begins : ends (shape w) (start (shape w)) pre ≡ from
    reach : from + l ≡ x.at.0
    before_is : last_free (shape w) (start (shape w)) pre 0 ≡ before

  left_of : (touching : Bool) → x.touching ≡ touching → (from before : ℕ) → from ≡ left_at x.at.0 x.prev.0 x.touching → before ≡ left_free w b x.at.0 x.prev.0 x.touching → LeftOf from before
  left_of false z from before ef eb =
      let ef' : from ≡ x.at.0 = ef ∙ rw z refl in
      let eb' : before ≡ x.prev.0 = eb ∙ rw z refl in
      record {
        pre = t.pre;
        lefts = [];
        l = 0;
        side = nobody;
        pre_is = sym (append-nil t.pre);
        known = inl (f.touches ∙ ap flag z);
        begins = f.at ∙ sym ef';
        reach = omega arith;
        before_is = f.before ∙ sym eb';
      }
  left_of true z from before ef eb = joined (left_side t.pre (f.touches ∙ ap flag z))
    where
      joined : (pre : List Block) × (s : ℕ) × (t.pre ≡ pre ++ (free s ∷ [])) → LeftOf from before
      joined g =
          let pre = g.0 in
          let s = g.1 in
          let e = g.2 in
          let ef' : from ≡ x.prev.0 = ef ∙ rw z refl in
          let eb' : before ≡ word_at w b (previous_at (shape w) x.prev.0 (x.at.0 - x.prev.0)) = eb ∙ rw z refl in
          let p1 : ends (shape w) (start (shape w)) pre + s ≡ x.at.0 = unfold ends size_of in sym (ends_append (shape w) (start (shape w)) pre (free s ∷ [])) ∙ ap (λ (l : List Block). ends (shape w) (start (shape w)) l) (sym e) ∙ f.at in
          let p2 : ends (shape w) (start (shape w)) pre ≡ x.prev.0 = unfold last_free in sym (last_append (shape w) (start (shape w)) pre (free s ∷ []) 0) ∙ ap (λ (l : List Block). last_free (shape w) (start (shape w)) l 0) (sym e) ∙ f.before in
          let bl : L.blocks ≡ pre ++ ((free s ∷ []) ++ (used u ∷ t.post)) =
          f.blocks ∙ ap (λ (l : List Block). l ++ (used u ∷ t.post)) e ∙ append_assoc pre (free s ∷ []) (used u ∷ t.post) in
          let m = middle_in (shape w) b L pre (free s ∷ []) (used u ∷ t.post) (ends (shape w) (start (shape w)) pre) (ends (shape w) (start (shape w)) pre + s) (last_free (shape w) (start (shape w)) pre 0) (first_free (shape w) (ends (shape w) (start (shape w)) pre + s) (used u ∷ t.post) 0) h.tiled h.shown bl
          (record { begins = refl; finishes = unfold ends size_of in refl; before = refl; behind = refl }) in
          let v = free_read (shape w) m in
          let there : previous_at (shape w) (ends (shape w) (start (shape w)) pre) s ≡ previous_at (shape w) x.prev.0 (x.at.0 - x.prev.0) = omega (arith, p1, p2) in
          record {
            pre = pre;
            lefts = free s ∷ [];
            l = s;
            side = neighbour s;
            pre_is = e;
            known = inr (omega (arith, v.least));
            begins = p2 ∙ sym ef';
            reach = omega (arith, p1, p2, ef');
            before_is = sym v.prev_is ∙ ap (λ (y : ℕ). word_at w b y) there ∙ sym eb';
          }

  -- the right neighbour
  pub record RightOf (to behind : ℕ) : Type 0 where
    pub rights : List Block
    pub post : List Block
    pub r : ℕ
    pub side : Side rights r
    pub post_is : t.post ≡ rights ++ post
    pub clear : Apart 1 post
    pub extent : x.at.0 + x.size + r ≡ to
    pub behind_is : first_free (shape w) to post 0 ≡ behind

  pub right_of : (next : ℕ) → next ≡ first_free (shape w) (x.at.0 + x.size) t.post 0 → (to behind : ℕ) → to ≡ right_at w b (x.at.0 + x.size) next → behind ≡ right_free w b (x.at.0 + x.size) next → RightOf to behind
  right_of next en to behind et eb = go (ℕ_discrete next (x.at.0 + x.size))
    where
      q : ℕ
      q = x.at.0 + x.size

      go : Dec (next ≡ x.at.0 + x.size) → RightOf to behind
      go (no n) =
          let k = ne_eqb next (x.at.0 + x.size) n in
          let et' : to ≡ x.at.0 + x.size = et ∙ rw k refl in
          let eb' : behind ≡ next = eb ∙ rw k refl in
          record {
            rights = [];
            post = t.post;
            r = 0;
            side = nobody;
            post_is = refl;
            clear = right_not (shape w) (x.at.0 + x.size) t.post (λ e. n (en ∙ e)) post_apart;
            extent = omega arith;
            behind_is = ap (λ (y : ℕ). first_free (shape w) y t.post 0) et' ∙ sym en ∙ sym eb';
          }
      go (yes n) =
          touching n (right_side (shape w) (x.at.0 + x.size) t.post (omega (arith, start_le (shape w) self, middle_le (shape w) self)) (all_post (shape w) self) (positive wd) (sym en ∙ n))
        where
          touching : next ≡ x.at.0 + x.size → (s : ℕ) × (post : List Block) × (t.post ≡ free s ∷ post) → RightOf to behind
          touching n v =
              let s = v.0 in
              let post = v.1 in
              let k = eq-eqb next (x.at.0 + x.size) n in
              let et' : to ≡ x.at.0 + x.size + word_at w b (x.at.0 + x.size) = et ∙ rw k refl in
              let eb' : behind ≡ word_at w b (next_at (shape w) (x.at.0 + x.size)) = eb ∙ rw k refl in
              let bl : L.blocks ≡ (t.pre ++ (used u ∷ [])) ++ ((free s ∷ []) ++ post) =
              f.blocks ∙ ap (λ (l : List Block). t.pre ++ (used u ∷ l)) v.2 ∙ sym (append_assoc t.pre (used u ∷ []) (free s ∷ post)) in
              let be : ends (shape w) (start (shape w)) (t.pre ++ (used u ∷ [])) ≡ x.at.0 + x.size =
              ends_append (shape w) (start (shape w)) t.pre (used u ∷ []) ∙ ap (λ (y : ℕ). ends (shape w) y (used u ∷ [])) f.at ∙ self.places.finishes in
              let m = middle_in (shape w) b L (t.pre ++ (used u ∷ [])) (free s ∷ []) post (x.at.0 + x.size) (x.at.0 + x.size + s)
              (last_free (shape w) (start (shape w)) (t.pre ++ (used u ∷ [])) 0) (first_free (shape w) (x.at.0 + x.size + s) post 0) h.tiled h.shown bl
              (record { begins = be; finishes = unfold ends size_of in refl; before = refl; behind = refl }) in
              let z = free_read (shape w) m in
              let ap1 : Apart 0 (free s ∷ post) = rw v.2 at post_apart in
              let ts : to ≡ x.at.0 + x.size + s = omega (arith, z.size) in
              record {
                rights = free s ∷ [];
                post = post;
                r = s;
                side = neighbour s;
                post_is = v.2;
                clear = unfold Apart in ap1.1;
                extent = sym ts;
                behind_is = ap (λ (y : ℕ). first_free (shape w) y post 0) ts ∙ sym z.next_is ∙ sym eb';
              }

  -- all three together
  pub joining : (next from to before behind : ℕ) → next ≡ word_at w b (link_of (shape w) x.prev.0)
      → from ≡ left_at x.at.0 x.prev.0 x.touching → before ≡ left_free w b x.at.0 x.prev.0 x.touching → to ≡ right_at w b (x.at.0 + x.size) next → behind ≡ right_free w b (x.at.0 + x.size) next
      → Joining w b L t from to before behind
  joining next from to before behind en ef eb et eh =
      let lf = left_of x.touching refl from before ef eb in
      let rt = right_of next (next_free next en) to behind et eh in
      let bl : L.blocks ≡ lf.pre ++ (old (shape w) (end_of (length b)) L.lists t u f.fits lf.pre lf.lefts rt.rights rt.post lf.l rt.r lf.side rt.side lf.pre_is rt.post_is ++ rt.post) =
      f.blocks ∙ sides_blocks (shape w) (end_of (length b)) L.lists t u f.fits lf.pre lf.lefts rt.rights rt.post lf.l rt.r lf.side rt.side lf.pre_is rt.post_is in
      record {
        pre = lf.pre;
        lefts = lf.lefts;
        rights = rt.rights;
        post = rt.post;
        l = lf.l;
        r = rt.r;
        left = lf.side;
        right = rt.side;
        pre_is = lf.pre_is;
        post_is = rt.post_is;
        clear_left = left_clear (shape w) (end_of (length b)) L.lists t u f.fits lf.pre lf.lefts rt.rights rt.post lf.l rt.r lf.side rt.side lf.pre_is rt.post_is (subst (λ (l : List Block). Apart 0 l) bl h.tiled.apart) lf.known;
        clear_right = rt.clear;
        begins = lf.begins;
        reach = omega (arith, lf.reach, f.at);
        extent = omega (arith, lf.reach, rt.extent, f.size);
        before_is = lf.before_is;
        behind_is = rt.behind_is;
      }

-- what is written for the joined block
module _ {w : ℕ} (wd : Width w) (b : List ℕ) (L : Layout) (t : Spot) (u : Use) (x : UsedBlock) (from to before behind : ℕ) (h : Laid w b L) (f : BlockAt w L t u x) (j : Joining w b L t from to before behind) where
  abbrev three_blocks : List Block
  three_blocks = j.lefts ++ (used u ∷ j.rights)

  blocks_joined : L.blocks ≡ j.pre ++ (three_blocks ++ j.post)
  blocks_joined = f.blocks ∙ sides_blocks (shape w) (end_of (length b)) L.lists t u f.fits j.pre j.lefts j.rights j.post j.l j.r j.left j.right j.pre_is j.post_is

  pub middle : Middle (shape w) b (end_of (length b)) L.lists j.pre three_blocks j.post from to before behind
  middle =
      middle_in (shape w) b L j.pre three_blocks j.post from to before behind h.tiled h.shown blocks_joined
      (record {
        begins = j.begins;
        finishes = ends_old (shape w) (end_of (length b)) L.lists t u f.fits j.pre j.lefts j.rights j.post j.l j.r j.left j.right j.pre_is j.post_is from ∙ j.extent;
        before = j.before_is;
        behind = j.behind_is;
      })

  abbrev size : ℕ
  size = j.l + (t.size + j.r)

  tiled : Tiled (shape w) (end_of (length b)) (three (shape w) L.lists j.pre (free size ∷ []) j.post)
  tiled =
      let z = use_sizes wd b L t u x h f in
      released_tiled (shape w) (end_of (length b)) L.lists t u f.fits j.pre j.lefts j.rights j.post j.l j.r j.left j.right j.pre_is j.post_is z.0 z.1
      (subst (λ (l : List Block). Tiled (shape w) (end_of (length b)) (record { blocks = l; lists = L.lists })) blocks_joined h.tiled) j.clear_left j.clear_right

  pub released_blocks : released t ≡ j.pre ++ (free size ∷ j.post)
  released_blocks =
      released_is (shape w) (end_of (length b)) L.lists t u f.fits j.pre j.lefts j.rights j.post j.l j.r j.left j.right j.pre_is j.post_is
      (subst (λ (l : List Block). Apart 0 l) blocks_joined h.tiled.apart) j.clear_left j.clear_right

  -- the bytes are those of the heap with the block given back
  pub released_drawn : Bytes b → length b ≤ (shape w).most → linked_bytes w b from to before behind ≡ drawn (shape w) (record { blocks = released t; lists = L.lists }) b
  unfolding linked_bytes free_words block_words own first_free last_free
  released_drawn bytes short =
      let n : to - from ≡ j.l + (t.size + j.r) = omega (arith, j.extent) in
      let e : ends (shape w) from (free (j.l + (t.size + j.r)) ∷ []) ≡ to = unfold ends size_of in j.extent in
      rw (released_blocks, n) (rewritten (shape w) middle (free (j.l + (t.size + j.r)) ∷ []) e (shape_good wd) bytes (omega arith) tiled)

  pub link_room : length b ≤ (shape w).most → LinkRoom w b from to before behind
  link_room short =
      let least : least_free (shape w) ≤ j.l + (t.size + j.r) = omega (arith, (use_sizes wd b L t u x h f).0) in
      record {
        width = wd;
        least = omega (arith, j.extent);
        inside = omega (arith, end_le (shape w) middle);
        linked = omega (arith, link_in (shape w) middle, middle_le (shape w) middle, end_le (shape w) middle);
        before_fits = omega (arith, most_bound wd, prev_in (shape w) middle, middle_le (shape w) middle, end_le (shape w) middle);
        back = record { width = wd; block = λ z. ⊎_elim (λ e. absurd (z e)) (λ e. (omega (arith, e.least), omega (arith, e.high))) (next_in_lem (shape w) middle) };
        behind_inside = omega (arith, back_in (shape w) middle (omega (arith, j.extent)));
      }

-- what code reads and writes, in its own numbers
module _ {w : ℕ} (b : List ℕ) (x : UsedBlock) (k : BlockIn w b x) where
  stands : Middle (shape w) b (end_of (length b)) k.layout.lists k.spot.pre (used k.block ∷ []) k.spot.post x.at.0 (x.at.0 + x.size) x.prev.0 (first_free (shape w) (x.at.0 + x.size) k.spot.post 0)
  stands = self k.width b k.layout k.spot k.block x k.laid k.in_use

  pub record Around : Type 0 where
    pub low : start (shape w) ≤ x.at.0
    pub high : x.at.0 + x.size ≤ length b
    pub prev_low : x.prev.0 + w ≤ x.at.0
    pub link_low : link_of (shape w) x.prev.0 + w ≤ x.at.0

  pub around : Around
  around =
      record {
        low = start_le (shape w) stands;
        high = omega (arith, end_le (shape w) stands);
        prev_low = prev_in (shape w) stands;
        link_low = link_in (shape w) stands;
      }

  pub right_room : (next : ℕ) → next ≡ word_at w b (link_of (shape w) x.prev.0) → RightRoom w b (x.at.0 + x.size) next
  right_room next e =
      record {
        width = k.width;
        block = λ n. ⊎_elim (λ z. absurd (omega (arith, start_le (shape w) stands, is_next)))
            (λ z. inside n z) (next_in_lem (shape w) stands);
      }
    where
      is_next : next ≡ first_free (shape w) (x.at.0 + x.size) k.spot.post 0
      is_next = next_free k.width b k.layout k.spot k.block x k.laid k.in_use next e

      inside : next ≡ x.at.0 + x.size → FreeAt (shape w) b (x.at.0 + x.size) (end_of (length b)) (first_free (shape w) (x.at.0 + x.size) k.spot.post 0) → (tags (shape w) ≤ word_at w b (x.at.0 + x.size)) × (x.at.0 + x.size + word_at w b (x.at.0 + x.size) ≤ length b)
      inside n z =
          let q : first_free (shape w) (x.at.0 + x.size) k.spot.post 0 ≡ x.at.0 + x.size = sym is_next ∙ n in
          let y : FreeAt (shape w) b (x.at.0 + x.size) (end_of (length b)) (x.at.0 + x.size) = rw q at z in
          (omega (arith, y.least), omega (arith, y.high))

  module _ (next from to before behind : ℕ) (en : next ≡ word_at w b (link_of (shape w) x.prev.0)) (ef : from ≡ left_at x.at.0 x.prev.0 x.touching) (eb : before ≡ left_free w b x.at.0 x.prev.0 x.touching) (et : to ≡ right_at w b (x.at.0 + x.size) next)
      (eh : behind ≡ right_free w b (x.at.0 + x.size) next) where
    join : (L : Layout) (t : Spot) (u : Use) → Laid w b L → BlockAt w L t u x → Joining w b L t from to before behind
    join L t u h f = joining k.width b L t u x h f next from to before behind en ef eb et eh

    pub release_room : LinkRoom w b from to before behind
    release_room =
        link_room k.width b k.layout k.spot k.block x from to before behind k.laid k.in_use (join k.layout k.spot k.block k.laid k.in_use) k.short

    -- THE LAW, of any block in use
    pub release_law : Bytes b → (c : List ℕ) → c ≡ linked_bytes w b from to before behind → GivenBack w b x c
    release_law bytes c e = record { draws = λ L t u h f. e ∙ released_drawn k.width b L t u x from to before behind h f (join L t u h f) bytes k.short }

-- a variable block that was found is one in use
module _ {w : ℕ} (wd : Width w) (L : Layout) (a : ℕ) (t : Spot) (x : UsedBlock) (f : BlockFound w L a t x) where
  pub found_in_use : BlockAt w L t (variable t.size) x
  unfolding use_size
  found_in_use =
      record {
        blocks = (block_found (shape w) (shape_good wd) a (start (shape w)) L.blocks t f.found).blocks;
        fits = refl;
        at = f.at;
        size = f.size;
        before = f.before;
        touches = f.touches;
      }

-- so where it is given back the rule's layout is drawn
pub freed_draws : {w : ℕ} → Width w → {b : List ℕ} {x : UsedBlock} {c : List ℕ} → GivenBack w b x c → (L : Layout) (a : ℕ) (t : Spot) → Here (shape w) b L → BlockFound w L a t x
    → c ≡ drawn (shape w) (freed (shape w) (block t) L) b
unfolding freed
freed_draws wd {x = x} g L a t h f = g.draws L t (variable t.size) (laid wd h) (found_in_use wd L a t x f)

module _ {w : ℕ} {b : List ℕ} {x : UsedBlock} (k : BlockLive w b x) where
  pub live_used : BlockIn w b x
  live_used =
      record {
        width = k.width;
        layout = k.layout;
        laid = laid k.width k.here;
        short = k.short;
        spot = k.spot;
        block = variable k.spot.size;
        in_use = found_in_use k.width k.layout k.address k.spot x k.found;
      }

  -- and a sound heap stays sound
  pub freed_sound : {c : List ℕ} → GivenBack w b x c → Sound (shape w) c
  unfolding freed
  freed_sound g =
      let is = freed_draws k.width g k.layout k.address k.spot k.here k.found in
      let v = freed_block_valid (shape w) (shape_good k.width).larger (end_of (length b)) k.layout k.spot k.here.valid (found_in_use k.width k.layout k.address k.spot x k.found).blocks in
      record {
        layout = freed (shape w) (block k.spot) k.layout;
        here = subst (λ (y : List ℕ). Here (shape w) y (freed (shape w) (block k.spot) k.layout)) (sym is)
            (drawn_here (shape w) (shape_good k.width) b (freed (shape w) (block k.spot) k.layout) k.here.magic v k.short);
      }

-- The free block before a variable block, found again: what the tags say after an allocation.
use Rattle.std.proofs.Common.{ℕ, ◌+◌, ◌-◌, ◌*◌, ◌/◌, ◌%◌, ◌≤◌, ◌≡◌, refl, sym, ap, subst, ◌∙◌, false, List, [], ◌∷◌, ◌++◌, append_assoc, append-nil, ◌⊎◌, inl, inr, ⊎_elim, arith, length, eq-eqb, ne_eqb}
use Rattle.std.proofs.Math.Decide.{ℕ_discrete}
use Rattle.words.specs.Width.{Width}
use Rattle.words.specs.Word.{word_at}
use Rattle.model.specs.Shape.{shape, start}
use Rattle.model.specs.Parts.{free_kind, size_in, kind_in}
use Rattle.model.specs.Layout.{Use, variable, page, Block, free, used, Layout, use_size, size_of, ends, first_free}
use Rattle.model.specs.Sound.{AllAllowed, Here}
use Rattle.model.specs.Rules.{Spot, Found, block, find, find_from}
use Rattle.model.proofs.Good.{shape_good}
use Rattle.model.proofs.blocks.Blocks.{ends_append, le_ends, allowed_left}
use Rattle.model.specs.inner.Walks.{flag, last_free, Stands, Mend}
use Rattle.model.proofs.blocks.Middle.{middle_at, free_read}
use Rattle.model.specs.inner.Links.{back_of}
use Rattle.model.proofs.walks.Standing.{Met, met, block_tag}
use Rattle.model.proofs.items.Aligned.{laid}
use Rattle.model.proofs.walks.Finding.{behinds, find_past, find_at}
use Rattle.model.proofs.blocks.Mending.{NoFree, Last, last_of, Before}
use Rattle.find.specs.declared.UsedBlock.{UsedBlock}
use Rattle.links.specs.Links.{BackRoom}
use Rattle.find.specs.Find.{BlockFound}
use Rattle.moving.specs.Mend.{BlockLiveAt, Mendable, Mended}
use Rattle.releasing.proofs.ReleaseLaws.{found_in_use}

-- what is read where a block begins
module _ {w : ℕ} (wd : Width w) {b : List ℕ} {L : Layout} (h : Here (shape w) b L) where
  read_at : (low : List Block) (x : Block) (rest : List Block) (q : ℕ) → L.blocks ≡ low ++ (x ∷ rest) → ends (shape w) (start (shape w)) low ≡ q → Met w b L q (last_free (shape w) (start (shape w)) low 0) x rest
  read_at low x rest q e at = met wd (laid wd h) (record { pre = low; rest = x ∷ rest; blocks = e; begins = at; before = refl; touches = refl }) x rest refl

  -- a free block's tag is its size, a multiple of 8; that of a block in use is none, and says the size too
  free_tag : (low : List Block) (k : ℕ) (rest : List Block) (q : ℕ) → L.blocks ≡ low ++ (free k ∷ rest) → ends (shape w) (start (shape w)) low ≡ q → (word_at w b q % 8 ≡ 0) × (4 * w ≤ word_at w b q) × (q + word_at w b q ≤ length b)
  unfolding block_tag size_of
  free_tag low k rest q e at = let m = read_at low (free k) rest q e at in (omega (arith, m.tag, m.eight), omega (arith, m.tag, m.least), omega (arith, m.tag, m.inside))

  used_tag : (low : List Block) (u : Use) (rest : List Block) (q : ℕ) → L.blocks ≡ low ++ (used u ∷ rest) → ends (shape w) (start (shape w)) low ≡ q → (t : ℕ) → t ≡ word_at w b q → (t % 8 ≡ 0 → ⊥) × (t / 8 * 8 ≡ use_size (shape w) u) × (q + 4 * w ≤ length b)
  unfolding block_tag size_of
  used_tag low u rest q e at t et = go u (read_at low (used u) rest q e at)
    where
      go : (u : Use) → Met w b L q (last_free (shape w) (start (shape w)) low 0) (used u) rest → (t % 8 ≡ 0 → ⊥) × (t / 8 * 8 ≡ use_size (shape w) u) × (q + 4 * w ≤ length b)
      go (variable s) m = unfold use_size in ((λ z. omega (arith, m.tag, m.eight)), omega (arith, m.tag, m.eight), omega (arith, m.least, m.inside))
      go (page c k ss) m = ((λ z. omega (arith, m.tag, m.eight)), omega (arith, m.tag, m.eight), omega (arith, m.least, m.inside))

  -- the last free block before a block
  module _ {p s prev left : ℕ} (k : Stands (shape w) L p s prev left) where
    prev_tag : (prev ≡ 0 → ⊥) → (word_at w b prev % 8 ≡ 0) × (4 * w ≤ word_at w b prev) × (prev + word_at w b prev ≤ length b)
    prev_tag z = go (last_of (shape w) (start (shape w)) k.pre 0)
      where
        go : ((last_free (shape w) (start (shape w)) k.pre 0 ≡ 0) × NoFree k.pre) ⊎ Last (shape w) (start (shape w)) k.pre (last_free (shape w) (start (shape w)) k.pre 0) → (word_at w b prev % 8 ≡ 0) × (4 * w ≤ word_at w b prev) × (prev + word_at w b prev ≤ length b)
        go (inl e) = absurd (z (sym k.before ∙ e.0))
        go (inr l) =
            free_tag l.low l.size (l.high ++ (used (variable s) ∷ k.post)) prev
            (k.blocks ∙ ap (λ (x : List Block). x ++ (used (variable s) ∷ k.post)) l.is ∙ append_assoc l.low (free l.size ∷ l.high) (used (variable s) ∷ k.post)) (l.at ∙ k.before)

  -- what the tag t at prev says after an allocation
  record StillFree (p s prev left t : ℕ) : Type 0 where
    free_there : t % 8 ≡ 0
    room : prev + 4 * w ≤ length b
    stands : Stands (shape w) L p s prev left

  record SplitThere (p s prev left t : ℕ) : Type 0 where
    taken : t % 8 ≡ 0 → ⊥
    room : prev + 4 * w ≤ length b
    next_room : prev + t / 8 * 8 + w ≤ length b
    rest : word_at w b (prev + t / 8 * 8) % 8 ≡ 0
    stands : Stands (shape w) L p s (prev + t / 8 * 8) left

  record AllTaken (p s prev before t : ℕ) : Type 0 where
    taken : t % 8 ≡ 0 → ⊥
    room : prev + 4 * w ≤ length b
    next_room : prev + t / 8 * 8 + w ≤ length b
    no_rest : word_at w b (prev + t / 8 * 8) % 8 ≡ 0 → ⊥
    stands : Stands (shape w) L p s before 0

  -- the block behind one in use
  behind_blocks : (low : List Block) (u : Use) (x : Block) (rest : List Block) → L.blocks ≡ low ++ (used u ∷ (x ∷ rest)) → L.blocks ≡ (low ++ (used u ∷ [])) ++ (x ∷ rest)
  behind_blocks low u x rest e = e ∙ sym (append_assoc low (used u ∷ []) (x ∷ rest))

  behind_at_lem : (low : List Block) (u : Use) (q : ℕ) → ends (shape w) (start (shape w)) low ≡ q → ends (shape w) (start (shape w)) (low ++ (used u ∷ [])) ≡ q + use_size (shape w) u
  unfolding ends size_of
  behind_at_lem low u q e = ends_append (shape w) (start (shape w)) low (used u ∷ []) ∙ ap (λ (y : ℕ). y + use_size (shape w) u) e

  inspect : (p s prev left before t : ℕ) → Mend (shape w) L p s prev left before → (prev ≡ 0 → ⊥) → t ≡ word_at w b prev → StillFree p s prev left t ⊎ (SplitThere p s prev left t ⊎ AllTaken p s prev before t)
  inspect p s prev left before t (inl k) z e = let g = prev_tag k z in inl (record { free_there = omega (arith, g.0); room = omega (arith, g.1, g.2); stands = k })
  inspect p s prev left before t (inr (inl k)) z e =
      let g = used_tag k.low k.taker (free k.size ∷ k.high) prev k.blocks k.at t e in
      let q : prev + t / 8 * 8 ≡ prev + use_size (shape w) k.taker = omega (arith, g.1) in
      let f = free_tag (k.low ++ (used k.taker ∷ [])) k.size k.high (prev + use_size (shape w) k.taker) (behind_blocks k.low k.taker (free k.size) k.high k.blocks) (behind_at_lem k.low k.taker prev k.at) in
      inr (inl (record {
        taken = g.0;
        room = g.2;
        next_room = omega (arith, q, f.1, f.2);
        rest = rw q f.0;
        stands = rw q k.stands;
      }))
  inspect p s prev left before t (inr (inr k)) z e =
      let g = used_tag k.low k.taker (used k.next ∷ k.high) prev k.blocks k.at t e in
      let q : prev + t / 8 * 8 ≡ prev + use_size (shape w) k.taker = omega (arith, g.1) in
      let f = used_tag (k.low ++ (used k.taker ∷ [])) k.next k.high (prev + use_size (shape w) k.taker) (behind_blocks k.low k.taker (used k.next) k.high k.blocks) (behind_at_lem k.low k.taker prev k.at)
      (word_at w b (prev + use_size (shape w) k.taker)) refl in
      inr (inr (record {
        taken = g.0;
        room = g.2;
        next_room = omega (arith, q, f.2);
        no_rest = rw q f.0;
        stands = k.stands;
      }))

  -- where there is no free block before it, none was taken
  none_before : (p s prev left before : ℕ) → Mend (shape w) L p s prev left before → prev ≡ 0 → Stands (shape w) L p s prev left
  none_before p s prev left before (inl k) z = k
  none_before p s prev left before (inr (inl k)) z = absurd (omega (arith, k.at, le_ends (shape w) (start (shape w)) k.low))
  none_before p s prev left before (inr (inr k)) z = absurd (omega (arith, k.at, le_ends (shape w) (start (shape w)) k.low))

-- each way through mend
module _ {w : ℕ} {b : List ℕ} {x : UsedBlock} {before : ℕ} (k : Mendable w b x before) where
  pub none_taken : x.prev.0 ≡ 0 → Mended w b x before x
  none_taken z = record { at = refl; size = refl; stands = λ L h m. none_before k.width h x.at.0 x.size x.prev.0 (flag x.touching) before m z }

  module _ (z : x.prev.0 ≡ 0 → ⊥) where
    pub prev_room : x.prev.0 + 4 * w ≤ length b
    prev_room =
        ⊎_elim (λ g. g.room) (λ g. ⊎_elim (λ f. f.room) (λ f. f.room) g)
        (inspect k.width k.here x.at.0 x.size x.prev.0 (flag x.touching) before (word_at w b x.prev.0) k.mend z refl)

    module _ (t : ℕ) (e : t ≡ word_at w b x.prev.0) where
      pub still_free : kind_in t ≡ free_kind → Mended w b x before x
      still_free y =
          record {
            at = refl;
            size = refl;
            stands = λ L h m.
                ⊎_elim (λ g. g.stands) (λ g. ⊎_elim (λ f. absurd (f.taken y)) (λ f. absurd (f.taken y)) g) (inspect k.width h x.at.0 x.size x.prev.0 (flag x.touching) before t m z e);
          }

      module _ (y : kind_in t ≡ free_kind → ⊥) (s : ℕ) (es : s ≡ size_in t) where
        pub behind_room : x.prev.0 + s + w ≤ length b
        behind_room =
            rw es
            (⊎_elim (λ g. absurd (y g.free_there)) (λ g. ⊎_elim (λ f. f.next_room) (λ f. f.next_room) g)
            (inspect k.width k.here x.at.0 x.size x.prev.0 (flag x.touching) before t k.mend z e))

        module _ (r : ℕ) (er : r ≡ word_at w b (x.prev.0 + s)) where
          pub rest_free : kind_in r ≡ free_kind → Mended w b x before (record { at = x.at; size = x.size; prev = record { 0 = x.prev.0 + s }; touching = x.touching })
          rest_free f =
              let v : word_at w b (x.prev.0 + size_in t) % 8 ≡ 0 = ap (λ (v : ℕ). v % 8) (sym (rw es at er)) ∙ f in
              rw es
              (record {
                at = refl;
                size = refl;
                stands = λ L h m.
                    ⊎_elim (λ g. absurd (y g.free_there)) (λ g. ⊎_elim (λ j. j.stands) (λ j. absurd (j.no_rest v)) g)
                    (inspect k.width h x.at.0 x.size x.prev.0 (flag x.touching) before t m z e);
              })

          pub none_free : (kind_in r ≡ free_kind → ⊥) → Mended w b x before (record { at = x.at; size = x.size; prev = record { 0 = before }; touching = false })
          none_free f =
              record {
                at = refl;
                size = refl;
                stands = λ L h m.
                    ⊎_elim (λ g. absurd (y g.free_there)) (λ g. ⊎_elim (λ j. absurd (f (ap (λ (v : ℕ). v % 8) (rw es at er) ∙ j.rest))) (λ j. j.stands) g)
                    (inspect k.width h x.at.0 x.size x.prev.0 (flag x.touching) before t m z e);
              }

-- a block that was found stands there
pub found_stands : {w : ℕ} → Width w → (b : List ℕ) (L : Layout) (a : ℕ) (t : Spot) (x : UsedBlock) → Here (shape w) b L → BlockFound w L a t x → Stands (shape w) L x.at.0 x.size x.prev.0 (flag x.touching)
found_stands wd b L a t x h f =
    record {
      pre = t.pre;
      post = t.post;
      blocks = (found_in_use wd L a t x f).blocks ∙ ap (λ (y : ℕ). t.pre ++ (used (variable y) ∷ t.post)) f.size;
      begins = f.at;
      before = f.before;
      touches = f.touches;
    }

-- and a block that stands there is found
pub stands_found : {w : ℕ} → Width w → (b : List ℕ) (L : Layout) (a : ℕ) (x : UsedBlock) → Here (shape w) b L → a ≡ x.at.0 + w → Stands (shape w) L x.at.0 x.size x.prev.0 (flag x.touching) → (t : Spot) × BlockFound w L a t x
stands_found {w} wd b L a x h e k =
    let post : List Block = used (variable x.size) ∷ k.post in
    let all : AllAllowed (shape w) (k.pre ++ post) = subst (λ (l : List Block). AllAllowed (shape w) l) k.blocks h.valid.allowed in
    let from : find (shape w) a L ≡ find_from (shape w) a (start (shape w)) (k.pre ++ post) = ap (λ (l : List Block). find_from (shape w) a (start (shape w)) l) k.blocks in
    let past : find_from (shape w) a (start (shape w)) (k.pre ++ post) ≡ behinds k.pre (find_from (shape w) a (ends (shape w) (start (shape w)) k.pre) post) =
    find_past (shape w) (shape_good wd) a (start (shape w)) k.pre post (allowed_left (shape w) k.pre post all) (omega (arith, k.begins)) in
    let at : find_from (shape w) a (ends (shape w) (start (shape w)) k.pre) post ≡ block (record { pre = []; size = x.size; post = k.post }) = find_at (shape w) (shape_good wd) a (ends (shape w) (start (shape w)) k.pre) x.size k.post (omega (arith, k.begins)) in (
      record { pre = k.pre; size = x.size; post = k.post },
      record {
        found = from ∙ past ∙ ap (λ (f : Found). behinds k.pre f) at ∙ ap (λ (l : List Block). block (record { pre = l; size = x.size; post = k.post })) (append-nil k.pre);
        at = k.begins;
        size = refl;
        before = k.before;
        touches = k.touches;
      },
    )

-- what is read before the allocation: the free block before the one at prev
module _ {w : ℕ} {b : List ℕ} {a : ℕ} {x : UsedBlock} (i : BlockLiveAt w b a x) where
  stands_now : (L : Layout) → Here (shape w) b L → Stands (shape w) L x.at.0 x.size x.prev.0 (flag x.touching)
  stands_now L h = found_stands i.ready.width b L a (i.is L h).0 x h (i.is L h).1

  pub prev_back : BackRoom w b x.prev.0
  prev_back = record { width = i.ready.width; block = λ z. let g = prev_tag i.ready.width i.ready.sound.here (stands_now i.ready.sound.layout i.ready.sound.here) z in (omega (arith, g.1), g.2) }

  pub back_room : (r : ℕ) → r ≡ back_of (shape w) b x.prev.0 → r + w ≤ length b
  back_room r e = go (ℕ_discrete x.prev.0 0)
    where
      long : start (shape w) ≤ length b
      long = omega (arith, le_ends (shape w) (start (shape w)) i.ready.sound.layout.blocks, i.ready.sound.here.valid.fills)

      go : Dec (x.prev.0 ≡ 0) → r + w ≤ length b
      go (yes z) = let f : r ≡ 0 = e ∙ rw (eq-eqb x.prev.0 0 z) refl in omega (arith, long)
      go (no z) =
          let f : r ≡ x.prev.0 + word_at w b x.prev.0 - 2 * w = e ∙ rw (ne_eqb x.prev.0 0 z) refl in
          let g = prev_back.block z in
          omega (arith, g.0, g.1)

  pub read_before : (r before : ℕ) → r ≡ back_of (shape w) b x.prev.0 → before ≡ word_at w b r → (L : Layout) → Here (shape w) b L → Before (shape w) L x.prev.0 before
  unfolding ends size_of
  read_before r before e f L h xs ys z el at =
      let low = le_ends (shape w) (start (shape w)) xs in
      let m = middle_at (shape w) b L xs (free z ∷ []) ys x.prev.0 (x.prev.0 + z) (last_free (shape w) (start (shape w)) xs 0) (first_free (shape w) (x.prev.0 + z) ys 0) h el (record { begins = at; finishes = refl; before = refl; behind = refl }) in
      let g = free_read (shape w) m in
      let n : x.prev.0 ≡ 0 → ⊥ = λ y. omega (arith, low, at) in
      let er : r ≡ x.prev.0 + z - 2 * w = e ∙ rw (ne_eqb x.prev.0 0 n) (ap (λ (v : ℕ). x.prev.0 + v - 2 * w) g.size) in
      sym g.prev_is ∙ ap (λ (v : ℕ). word_at w b v) (sym er) ∙ sym f

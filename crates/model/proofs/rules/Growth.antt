-- A heap that grows: the blocks before its new free block, and what stays.
use Rattle.std.proofs.Common.{ℕ, ◌+◌, ◌%◌, ◌≤◌, ◌<◌, ◌≡◌, refl, sym, ap, subst, ◌∙◌, List, [], ◌∷◌, ◌++◌, inl, arith, le-leb}
use Rattle.std.proofs.Math.Option.{Option, none, some}
use Rattle.std.proofs.Math.Decide.{dec_le}
use Rattle.std.proofs.lemmas.Bool.{lt-leb}
use Rattle.words.specs.Width.{Width}
use Rattle.model.specs.Shape.{Shape, shape, start, least_free, largest_item, class_of}
use Rattle.model.specs.Layout.{Block, free, used, Layout, size_of, ends, end_in}
use Rattle.model.specs.Sound.{times, Allowed, AllAllowed, Apart, idle_in, idle_items, Valid}
use Rattle.model.specs.Rules.{Made, extended, allocate, wanted, longer, growth}
use Rattle.model.specs.Live.{◌∈◌, Payload, live_from, live}
use Rattle.model.specs.Promises.{NothingFits}
use Rattle.model.specs.inner.Walks.{ends_free}
use Rattle.model.specs.inner.Edges.{Last, added, enlarged}
use Rattle.model.proofs.Good.{shape_good}
use Rattle.model.proofs.Sizes.{page_eight, page_least, per_page_bound, need_sized}
use Rattle.model.proofs.blocks.Blocks.{ends_append, allowed_append, allowed_left, allowed_right}
use Rattle.model.proofs.blocks.Valid.{apart_append, apart_left, apart_right, items_append}
use Rattle.model.proofs.lives.Lives.{live_append}
use Rattle.model.proofs.lives.Members.{in_right}
use Rattle.model.proofs.rules.Room.{no_room_lem}

-- blocks and the same with a free one of need at their end: `pre` is in both, d says whether a free block comes before them
pub record Extends (d need : ℕ) (bs : List Block) : Type 0 where
  pub pre : List Block
  pub old : List Block
  pub last : Last d pre old
  pub was : bs ≡ pre ++ old
  pub is : extended need bs ≡ pre ++ (free need ∷ [])

pub extends : (d need : ℕ) (bs : List Block) → (bs ≡ [] → d ≡ 0) → Extends d need bs
unfolding extended ends_free
extends d need [] h = record { pre = []; old = []; last = added (h refl); was = refl; is = refl }
extends d need (free s ∷ []) h = record { pre = []; old = free s ∷ []; last = enlarged s; was = refl; is = refl }
extends d need (free s ∷ b ∷ bs) h = behind (free s) 1 refl (extends 1 need (b ∷ bs) (λ e. let z : ◌≡◌ {A = ℕ} 0 1 = cc in omega (arith, z)))
  where
    behind : (c : Block) (k : ℕ) → k ≡ 1 → Extends k need (b ∷ bs) → Extends d need (free s ∷ b ∷ bs)
    behind c k e x = record { pre = free s ∷ x.pre; old = x.old; last = after x.last; was = ap (λ (l : List Block). free s ∷ l) x.was; is = ap (λ (l : List Block). free s ∷ l) x.is }
      where
        after : {old : List Block} → Last k x.pre old → Last d (free s ∷ x.pre) old
        after (added z) = added (subst (λ (j : ℕ). ends_free j x.pre ≡ 0) e z)
        after (enlarged t) = enlarged t
extends d need (used u ∷ bs) h = behind (extends 0 need bs (λ e. refl))
  where
    behind : Extends 0 need bs → Extends d need (used u ∷ bs)
    behind x = record { pre = used u ∷ x.pre; old = x.old; last = after x.last; was = ap (λ (l : List Block). used u ∷ l) x.was; is = ap (λ (l : List Block). used u ∷ l) x.is }
      where
        after : {old : List Block} → Last 0 x.pre old → Last d (used u ∷ x.pre) old
        after (added z) = added z
        after (enlarged t) = enlarged t

-- whether and how a heap grows for n bytes, in a buffer whose furthest end is E
pub data Grows (S : Shape) (E n : ℕ) (L : Layout) : Option Layout → Type 0 where
  found : (m : Made) → allocate S n L ≡ some m → Grows S E n L none
  full : allocate S n L ≡ none → E < end_in S (longer S n L) → Grows S E n L none
  grown : allocate S n L ≡ none → end_in S (longer S n L) ≤ E → Grows S E n L (some (longer S n L))

pub grows : (S : Shape) (E n : ℕ) (L : Layout) → Grows S E n L (growth S E n L)
unfolding growth
grows S E n L = go (allocate S n L) refl (dec_le (end_in S (longer S n L)) E)
  where
    go : (o : Option Made) → allocate S n L ≡ o → Dec (end_in S (longer S n L) ≤ E) → Grows S E n L (growth S E n L)
    go (some m) e d = rw e (found m e)
    go none e (yes l) = rw (e, le-leb (end_in S (longer S n L)) E l) (grown e l)
    go none e (no l) = rw (e, lt-leb (end_in S (longer S n L)) E (omega (arith, l))) (full e (omega (arith, l)))

module _ {w : ℕ} (wd : Width w) (n : ℕ) (some_byte : 1 ≤ n) where
  -- a size that a free block may have
  pub wanted_allowed : (least_free (shape w) ≤ wanted (shape w) n) × (wanted (shape w) n % 8 ≡ 0)
  wanted_allowed = go (dec_le n (largest_item (shape w)))
    where
      go : Dec (n ≤ largest_item (shape w)) → (least_free (shape w) ≤ wanted (shape w) n) × (wanted (shape w) n % 8 ≡ 0)
      go (yes l) = rw (le-leb n (largest_item (shape w)) l) (page_least wd (class_of n), page_eight wd (class_of n))
      go (no l) =
          let s = need_sized wd n (omega (arith, l)) in
          rw (lt-leb n (largest_item (shape w)) (omega (arith, l))) (omega (arith, s.0, (shape_good wd).larger), s.1)

  module _ (end : ℕ) (L : Layout) (v : Valid (shape w) end L) where
    abbrev need : ℕ
    need = wanted (shape w) n

    pub at_end : Extends 0 need L.blocks
    at_end = extends 0 need L.blocks (λ e. refl)

    abbrev pre : List Block
    pre = at_end.pre

    abbrev from : ℕ
    from = ends (shape w) (start (shape w)) pre

    -- where the longer heap ends
    pub longer_ends : end_in (shape w) (longer (shape w) n L) ≡ from + need
    unfolding ends size_of
    longer_ends = ap (λ (bs : List Block). ends (shape w) (start (shape w)) bs) at_end.is ∙ ends_append (shape w) (start (shape w)) pre (free need ∷ [])

    -- what stood at the end, up to it
    old_ends : ends (shape w) from at_end.old ≡ end
    old_ends = sym (ends_append (shape w) (start (shape w)) pre at_end.old) ∙ ap (λ (bs : List Block). ends (shape w) (start (shape w)) bs) (sym at_end.was) ∙ v.fills

    old_allowed : AllAllowed (shape w) at_end.old
    old_allowed = allowed_right (shape w) pre at_end.old (subst (λ (bs : List Block). AllAllowed (shape w) bs) at_end.was v.allowed)

    -- the new end is a multiple of 8 as the old one is
    pub longer_eight : end % 8 ≡ 0 → end_in (shape w) (longer (shape w) n L) % 8 ≡ 0
    unfolding ends size_of AllAllowed Allowed
    longer_eight e = go at_end.last old_ends old_allowed
      where
        go : {old : List Block} → Last 0 pre old → ends (shape w) from old ≡ end → AllAllowed (shape w) old → end_in (shape w) (longer (shape w) n L) % 8 ≡ 0
        go (added z) f a = omega (arith, longer_ends, wanted_allowed.1, e, f)
        go (enlarged s) f a = omega (arith, longer_ends, wanted_allowed.1, e, f, a.0.1)

    pre_allowed : AllAllowed (shape w) pre
    pre_allowed = allowed_left (shape w) pre at_end.old (subst (λ (bs : List Block). AllAllowed (shape w) bs) at_end.was v.allowed)

    apart_was : Apart 0 (pre ++ at_end.old)
    apart_was = subst (λ (bs : List Block). Apart 0 bs) at_end.was v.apart

    -- no free block stands before the new one
    pub not_free : {old : List Block} → Last 0 pre old → Apart (ends_free 0 pre) old → ends_free 0 pre ≡ 0
    unfolding Apart
    not_free (added z) a = z
    not_free (enlarged s) a = omega (arith, a.0)

    -- what it takes the place of holds nothing
    no_items : {old : List Block} → Last 0 pre old → (c p : ℕ) → idle_items (shape w) c p old ≡ []
    unfolding idle_items idle_in
    no_items (added z) c p = refl
    no_items (enlarged s) c p = refl

    no_lives : {old : List Block} → Last 0 pre old → (p : ℕ) → live_from (shape w) p old ≡ []
    unfolding live_from
    no_lives (added z) p = refl
    no_lives (enlarged s) p = refl

    items_same : (c : ℕ) → idle_items (shape w) c (start (shape w)) L.blocks ≡ idle_items (shape w) c (start (shape w)) (extended need L.blocks)
    items_same c =
        ap (λ (bs : List Block). idle_items (shape w) c (start (shape w)) bs) at_end.was
        ∙ items_append (shape w) c (start (shape w)) pre at_end.old
        ∙ ap (λ (l : List ℕ). idle_items (shape w) c (start (shape w)) pre ++ l) (no_items at_end.last c from ∙ sym (no_items (enlarged need) c from))
        ∙ sym (items_append (shape w) c (start (shape w)) pre (free need ∷ []))
        ∙ ap (λ (bs : List Block). idle_items (shape w) c (start (shape w)) bs) (sym at_end.is)

    pub longer_valid : Valid (shape w) (end_in (shape w) (longer (shape w) n L)) (longer (shape w) n L)
    unfolding AllAllowed Allowed Apart
    longer_valid =
        record {
          fills = refl;
          allowed = subst (λ (bs : List Block). AllAllowed (shape w) bs) (sym at_end.is) (allowed_append (shape w) pre (free need ∷ []) pre_allowed (wanted_allowed, tt));
          apart = subst (λ (bs : List Block). Apart 0 bs) (sym at_end.is)
              (apart_append 0 pre (free need ∷ []) (apart_left 0 pre at_end.old apart_was) (omega (arith, not_free at_end.last (apart_right 0 pre at_end.old apart_was)), tt));
          classes = v.classes;
          listed = λ c o h. v.listed c o h ∙ ap (λ (l : List ℕ). times o l) (items_same c);
        }

    -- the same is live
    pub longer_live : live (shape w) (longer (shape w) n L) ≡ live (shape w) L
    longer_live =
        ap (λ (bs : List Block). live_from (shape w) (start (shape w)) bs) at_end.is
        ∙ live_append (shape w) (start (shape w)) pre (free need ∷ [])
        ∙ ap (λ (l : List Payload). live_from (shape w) (start (shape w)) pre ++ l) (no_lives (enlarged need) from ∙ sym (no_lives at_end.last from))
        ∙ sym (live_append (shape w) (start (shape w)) pre at_end.old)
        ∙ ap (λ (bs : List Block). live_from (shape w) (start (shape w)) bs) (sym at_end.was)

    -- there is no room exactly where an allocation finds nothing
    pub nothing_fits_lem : (allocate (shape w) n L ≡ none) → NothingFits (shape w) n L
    nothing_fits_lem e = (no_room_lem (shape w) (shape_good wd).offered end n L v some_byte (λ c. (per_page_bound wd c).0)).0 e

    fits_less : NothingFits (shape w) n L → (s : ℕ) → free s ∈ L.blocks → s < need
    fits_less h s i = go (dec_le n (largest_item (shape w)))
      where
        go : Dec (n ≤ largest_item (shape w)) → s < need
        go (yes l) = rw (le-leb n (largest_item (shape w)) l) ((h.0 l).1 s i)
        go (no l) = rw (lt-leb n (largest_item (shape w)) (omega (arith, l))) (h.1 (omega (arith, l)) s i)

    -- the end is further
    pub longer_further : allocate (shape w) n L ≡ none → end < end_in (shape w) (longer (shape w) n L)
    unfolding ends size_of ◌∈◌
    longer_further e = go at_end.old refl at_end.last
      where
        go : (old : List Block) → at_end.old ≡ old → Last 0 pre old → end < end_in (shape w) (longer (shape w) n L)
        go old o (added z) = omega (arith, longer_ends, wanted_allowed.0, (shape_good wd).word, subst (λ (x : List Block). ends (shape w) from x ≡ end) o old_ends)
        go old o (enlarged s) =
            let i : free s ∈ L.blocks = subst (λ (bs : List Block). free s ∈ bs) (sym (at_end.was ∙ ap (λ (x : List Block). pre ++ x) o)) (in_right (free s) pre (free s ∷ []) (inl refl)) in
            omega (arith, longer_ends, fits_less (nothing_fits_lem e) s i, subst (λ (x : List Block). ends (shape w) from x ≡ end) o old_ends)

  -- and then there is room
  pub longer_finds : (end : ℕ) (L : Layout) → Valid (shape w) end L → allocate (shape w) n (longer (shape w) n L) ≡ none → ⊥
  unfolding ◌∈◌
  longer_finds end L v e =
      let G = longer (shape w) n L in
      let x = at_end end L v in
      let i : free (wanted (shape w) n) ∈ G.blocks = subst (λ (bs : List Block). free (wanted (shape w) n) ∈ bs) (sym x.is) (in_right (free (wanted (shape w) n)) x.pre (free (wanted (shape w) n) ∷ []) (inl refl)) in
      let g = longer_valid end L v in
      omega (arith, fits_less (end_in (shape w) G) G g (nothing_fits_lem (end_in (shape w) G) G g e) (wanted (shape w) n) i)

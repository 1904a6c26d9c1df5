-- A page is made where it fits, on an empty list: the new layout is valid.
use Rattle.std.proofs.Common.{ℕ, ◌+◌, ◌-◌, ◌%◌, ◌≤◌, ◌<◌, ◌≡◌, refl, sym, ap, ◌∙◌, List, [], ◌∷◌, ◌++◌, arith, length, get_or, set, replicate, length-set, get_or-set_same, get_or-set_other, lt-ltb, le-ltb, eq-eqb, ne_eqb}
use Rattle.std.proofs.Math.Decide.{ℕ_discrete, dec_lt}
use Rattle.std.proofs.Math.ListN.{length-replicate}
use Rattle.model.specs.Shape.{Shape, start, least_free, page_need, end_of}
use Rattle.model.specs.Picture.{draw}
use Rattle.model.specs.Layout.{idle, Use, page, Block, free, used, Layout, use_size, size_of, ends, words}
use Rattle.model.specs.Sound.{times, AllowedUse, Allowed, AllAllowed, Apart, idle_slots, idle_in, idle_items, Valid, Here}
use Rattle.model.specs.Rules.{Spot, paged}
use Rattle.model.proofs.blocks.Blocks.{ends_append, allowed_append, allowed_left, allowed_right}
use Rattle.model.proofs.blocks.Replace.{three}
use Rattle.model.proofs.pictures.Drawn.{times_append, drawn_here}
use Rattle.model.proofs.blocks.Valid.{apart_append, apart_left, apart_right, apart_down, items_append}
use Rattle.model.specs.inner.Walks.{ends_free, Split, SpotIn}
use Rattle.model.proofs.blocks.Spots.{split_layout, split_allowed}
use Rattle.model.proofs.blocks.Taken.{parts, placed_parts, takes_of, takes_eight}
use Rattle.model.specs.inner.Links.{takes}
use Rattle.model.proofs.Good.{Good}
use Rattle.model.proofs.items.Asked.{all_idle}

module _ (S : Shape) where
  -- blocks in the middle are replaced, and each list gains the free items that they gain
  pub regained_valid : (end : ℕ) (ls ls' : List (List ℕ)) (pre old mid post : List Block) → Valid S end (three S ls pre old post) → AllAllowed S mid
      → ends S (ends S (start S) pre) mid ≡ ends S (ends S (start S) pre) old
      → ((d : ℕ) → Apart d (old ++ post) → Apart d (mid ++ post))
      → length ls' ≡ length ls
      → ((c o : ℕ) → c < S.classes → times o (get_or ls' c []) + times o (idle_items S c (ends S (start S) pre) old) ≡ times o (get_or ls c []) + times o (idle_items S c (ends S (start S) pre) mid))
      → Valid S end (three S ls' pre mid post)
  regained_valid end ls ls' pre old mid post v a e n k i =
      let p = ends S (start S) pre in
      record {
        fills = ends_append S (start S) pre (mid ++ post) ∙ ends_append S p mid post ∙ ap (λ (x : ℕ). ends S x post) e ∙ sym (ends_append S p old post) ∙ sym (ends_append S (start S) pre (old ++ post)) ∙ v.fills;
        allowed = allowed_append S pre (mid ++ post) (allowed_left S pre (old ++ post) v.allowed) (allowed_append S mid post a (allowed_right S old post (allowed_right S pre (old ++ post) v.allowed)));
        apart = apart_append 0 pre (mid ++ post) (apart_left 0 pre (old ++ post) v.apart) (n (ends_free 0 pre) (apart_right 0 pre (old ++ post) v.apart));
        classes = k ∙ v.classes;
        listed = λ c o h. go c o h;
      }
    where
      -- the free items of a run with something in the middle
      run : (c o : ℕ) (mid : List Block)
          → times o (idle_items S c (start S) (pre ++ (mid ++ post)))
          ≡ times o (idle_items S c (start S) pre) + (times o (idle_items S c (ends S (start S) pre) mid) + times o (idle_items S c (ends S (ends S (start S) pre) mid) post))
      run c o mid =
          rw (items_append S c (start S) pre (mid ++ post), times_append o (idle_items S c (start S) pre) (idle_items S c (ends S (start S) pre) (mid ++ post)), items_append S c (ends S (start S) pre) mid post, times_append o (idle_items S c (ends S (start S) pre) mid) (idle_items S c (ends S (ends S (start S) pre) mid) post))
          refl

      go : (c o : ℕ) → c < S.classes → times o (get_or ls' c []) ≡ times o (idle_items S c (start S) (pre ++ (mid ++ post)))
      go c o h =
          let same = ap (λ (x : ℕ). times o (idle_items S c x post)) e in
          omega (arith, run c o old, run c o mid, i c o h, v.listed c o h, same)

  -- what a free block becomes, as blocks
  module _ (s u : ℕ) (U : Use) (eu : use_size S U ≡ u) (l : u ≤ s) where
    pub parts_ends : (p : ℕ) → ends S p (parts S u s U) ≡ ends S p (free s ∷ [])
    unfolding ends size_of
    parts_ends p = go (dec_lt u s)
      where
        go : Dec (u < s) → ends S p (parts S u s U) ≡ p + s
        go (yes k) = rw (lt-ltb u s k) (omega arith)
        go (no k) = rw (le-ltb u s (omega arith)) (omega arith)

    pub parts_allowed : AllowedUse S U → Allowed S (free s) → (u < s → u + least_free S ≤ s) → u % 8 ≡ 0 → AllAllowed S (parts S u s U)
    unfolding AllAllowed Allowed
    parts_allowed a f r eight = go (dec_lt u s)
      where
        go : Dec (u < s) → AllAllowed S (parts S u s U)
        go (yes k) = rw (lt-ltb u s k) (a, ((omega (arith, r k), omega (arith, f.1)), tt))
        go (no k) = rw (le-ltb u s (omega arith)) (a, tt)

    pub parts_apart : (d : ℕ) (post : List Block) → Apart d ((free s ∷ []) ++ post) → Apart d (parts S u s U ++ post)
    unfolding Apart
    parts_apart d post h = go (dec_lt u s)
      where
        go : Dec (u < s) → Apart d (parts S u s U ++ post)
        go (yes k) = rw (lt-ltb u s k) (omega (arith, h.0), (omega arith, h.1))
        go (no k) = rw (le-ltb u s (omega arith)) (omega (arith, h.0), apart_down 1 0 post (omega arith) h.1)

    pub parts_items : (c o p : ℕ) → times o (idle_items S c p (parts S u s U)) ≡ times o (idle_in S c p (used U))
    unfolding idle_items times
    parts_items c o p = go (dec_lt u s)
      where
        go : Dec (u < s) → times o (idle_items S c p (parts S u s U)) ≡ times o (idle_in S c p (used U))
        go (yes k) = rw (lt-ltb u s k) (times_append o (idle_in S c p (used U)) (idle_in S c (p + size_of S (used U)) (free (s - u)) ++ []) ∙ unfold idle_in in omega arith)
        go (no k) = rw (le-ltb u s (omega arith)) (times_append o (idle_in S c p (used U)) [] ∙ omega arith)

  -- a page of class c that takes u bytes
  abbrev pub page_of : ℕ → ℕ → Use
  page_of c u = page c (u - page_need S c) (replicate (S.per_page c) idle)

  pub page_size : (c u : ℕ) → page_need S c ≤ u → use_size S (page_of c u) ≡ u
  unfolding use_size
  page_size c u l = rw (length-replicate (S.per_page c) idle) (omega arith)

  -- what it takes at a spot, the list of its items where the spot is at p, and the layout with it
  abbrev pub page_takes : ℕ → Spot → ℕ
  page_takes c t = takes S (page_need S c) t.size

  abbrev pub page_list : ℕ → ℕ → List ℕ
  page_list c p = idle_slots S c (p + S.word) (replicate (S.per_page c) idle)

  abbrev pub page_layout : ℕ → ℕ → Layout → Spot → Layout
  page_layout c p L t = three S (set L.lists c (page_list c p)) t.pre (parts S (page_takes c t) t.size (page_of c (page_takes c t))) t.post

  module _ (c p : ℕ) {end : ℕ} {L : Layout} {t : Spot} (v : Valid S end L) (s : Split (page_need S c) L t) (at : ends S (start S) t.pre ≡ p) (good : Good S) where
    pub paged_as : paged S c t L ≡ page_layout c p L t
    paged_as = rw (placed_parts S (page_need S c) (page_of c) t good s.large, at) refl

    -- each list gains what the blocks gain
    page_gain : get_or L.lists c [] ≡ [] → c < length L.lists → (u : ℕ) → use_size S (page_of c u) ≡ u → u ≤ t.size → (d o : ℕ)
        → times o (get_or (set L.lists c (page_list c p)) d []) + times o (idle_items S d (ends S (start S) t.pre) (free t.size ∷ []))
        ≡ times o (get_or L.lists d []) + times o (idle_items S d (ends S (start S) t.pre) (parts S u t.size (page_of c u)))
    unfolding idle_items idle_in times
    page_gain empty cl u eu l d o = go (ℕ_discrete d c)
      where
        go : Dec (d ≡ c)
            → times o (get_or (set L.lists c (page_list c p)) d []) + 0
            ≡ times o (get_or L.lists d []) + times o (idle_items S d (ends S (start S) t.pre) (parts S u t.size (page_of c u)))
        go (yes e) =
            let have : times o (get_or (set L.lists c (page_list c p)) d []) ≡ times o (page_list c p) = rw e (ap (λ (m : List ℕ). times o m) (get_or-set_same L.lists c (page_list c p) [] cl)) in
            let had : times o (get_or L.lists d []) ≡ 0 = rw e (ap (λ (m : List ℕ). times o m) empty) in
            let page-has : times o (idle_in S d (ends S (start S) t.pre) (used (page_of c u))) ≡ times o (page_list c p) = rw (eq-eqb d c e, at) refl in
            omega (arith, have, had, page-has, parts_items t.size u (page_of c u) eu l d o (ends S (start S) t.pre))
        go (no e) =
            let have : times o (get_or (set L.lists c (page_list c p)) d []) ≡ times o (get_or L.lists d []) = ap (λ (m : List ℕ). times o m) (get_or-set_other L.lists c d (page_list c p) [] e) in
            let page-has : times o (idle_in S d (ends S (start S) t.pre) (used (page_of c u))) ≡ 0 = rw (ne_eqb d c e) refl in
            omega (arith, have, page-has, parts_items t.size u (page_of c u) eu l d o (ends S (start S) t.pre))

    pub page_valid : c < S.classes → page_need S c % 8 ≡ 0 → get_or L.lists c [] ≡ [] → Valid S (end) (page_layout c p L t)
    unfolding AllowedUse Allowed
    page_valid cl eight empty =
        let u = page_takes c t in
        let k = takes_of S (page_need S c) t.size s.large in
        let eu = page_size c u k.enough in
        let e = takes_eight S (page_need S c) t.size eight (split_allowed S v s).1 in
        regained_valid (end) L.lists (set L.lists c (page_list c p)) t.pre (free t.size ∷ []) (parts S u t.size (page_of c u)) t.post (split_layout S v s)
        (parts_allowed t.size u (page_of c u) eu k.within (cl, length-replicate (S.per_page c) idle, omega (arith, k.under good.word), omega (arith, k.enough), all_idle c (S.per_page c)) (split_allowed S v s) k.rest e)
        (parts_ends t.size u (page_of c u) eu k.within (ends S (start S) t.pre))
        (λ d h. parts_apart t.size u (page_of c u) eu k.within d t.post h)
        (length-set L.lists c (page_list c p))
        (λ d o h. page_gain empty (omega (arith, v.classes)) u eu k.within d o)

    pub paged_valid : c < S.classes → page_need S c % 8 ≡ 0 → get_or L.lists c [] ≡ [] → Valid S (end) (paged S c t L)
    paged_valid cl eight empty = rw paged_as (page_valid cl eight empty)

  pub paged_here : (c : ℕ) {b : List ℕ} {p : ℕ} {L : Layout} {t : Spot} → SpotIn S b p (page_need S c) L t → Good S → c < S.classes → page_need S c % 8 ≡ 0 → get_or L.lists c [] ≡ []
      → length b ≤ S.most → Here S (draw S.word (words S (end_of (length b)) (paged S c t L)) b) (paged S c t L)
  paged_here c {b} {p} {L} {t} x good cl eight empty short = drawn_here S good b (paged S c t L) x.here.magic (paged_valid c p x.here.valid x.split x.at good cl eight empty) short

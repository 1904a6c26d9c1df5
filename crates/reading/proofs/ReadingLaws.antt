-- What a walk that counts shows at each block.
use Rattle.std.proofs.Common.{ℕ, suc, ◌+◌, ◌-◌, ◌*◌, ◌≤◌, ◌<◌, ◌≡◌, refl, sym, ap, ap₂, ◌∙◌, List, [], ◌∷◌, ◌++◌, arith, length, get_or}
use Rattle.words.specs.Width.{Width}
use Rattle.words.specs.Word.{word_at}
use Rattle.model.specs.Shape.{shape, least_free, item_size, page_need, end_of, start}
use Rattle.model.specs.Parts.{free_kind, variable_kind, page_kind, tag_of, size_in, kind_in, class_in, far_tag_at, first_item_at, used_in}
use Rattle.model.specs.Picture.{Shows}
use Rattle.model.specs.Layout.{Slot, idle, held, variable, page, Block, free, used, Layout, use_size, size_of, ends, header, slot_words, use_words, own}
use Rattle.model.specs.Sound.{Allowed, AllowedUse, AllAllowed, Here, Sound}
use Rattle.model.specs.Reading.{held_in}
use Rattle.model.proofs.pictures.Pictures.{shows_left}
use Rattle.model.proofs.walks.Standing.{block_tag, PageThere, sized, is_variable_lem, is_free, is_page}
use Rattle.model.proofs.items.Aligned.{next_even, class_read, laid}
use Rattle.model.proofs.walks.Passing.{stands, passed_allowed, gone_start, gone_on, gone_done}
use Rattle.model.specs.inner.Walks.{Standing, Gone}
use Rattle.model.specs.inner.Laid.{Laid}
use Rattle.model.proofs.Sizes.{per_page_bound}
use Rattle.model.proofs.walks.Totals.{held_few}
use Rattle.reading.specs.declared.counting.Page.{Page}
use Rattle.reading.specs.Counting.{held_from, PageAt, AtPage, PageTold, Going}

-- the headers tell how many items are in use
held_read : (w : ℕ) (b l : List ℕ) (c : ℕ) → (q : ℕ) (ss : List Slot) → Shows w b (slot_words (shape w) c l q ss) → held_from w b c q (length ss) ≡ held_in ss
unfolding slot_words header Shows held_from held_in
held_read w b l c q [] s = refl
held_read w b l c q (idle ∷ ss) s = omega (arith, s.0, held_read w b l c (q + item_size (shape w) c) ss s.1)
held_read w b l c q (held n ∷ ss) s = omega (arith, s.0, held_read w b l c (q + item_size (shape w) c) ss s.1)

-- counting them, item by item
pub record Held (w : ℕ) (b : List ℕ) (c first n size q left held : ℕ) : Type 0 where
  pub width : Width w
  pub item_size_is : size ≡ item_size (shape w) c
  pub small : held + left ≤ n
  pub many : n ≡ (shape w).per_page c
  pub room : q + left * item_size (shape w) c ≤ length b
  pub rest : held + held_from w b c q left ≡ held_from w b c first n

pub held_start : {w : ℕ} → Width w → (b : List ℕ) (c first n size left : ℕ) → left ≡ n → n ≡ (shape w).per_page c → first + n * item_size (shape w) c ≤ length b → size ≡ item_size (shape w) c → Held w b c first n size first left 0
held_start wd b c first n size left l m r e = rw l record { width = wd; item_size_is = e; small = omega arith; many = m; room = r; rest = omega arith }

module _ {w : ℕ} {b : List ℕ} {c first n size q left held : ℕ} (i : Held w b c first n size q left held) where
  -- an item is left, and k behind it
  module _ (k : ℕ) (l : left ≡ suc k) where
    pub held_inside : (q + w ≤ length b) × (q + size ≤ length b)
    held_inside = let z : q + suc k * item_size (shape w) c ≤ length b = rw l at i.room in (omega (arith, z), omega (arith, z, i.item_size_is))

    -- x is the item's header, and y 1 where it says that it is in use, as code works them out
    pub held_again : (x y : ℕ) → x ≡ word_at w b q → y ≡ used_in x → Held w b c first n size (q + size) k (held + y)
    unfolding held_from
    held_again x y e f =
        let z : y ≡ used_in (word_at w b q) = f ∙ ap used_in e in
        let m : q + suc k * item_size (shape w) c ≤ length b = rw l at i.room in
        let r : held + held_from w b c q (suc k) ≡ held_from w b c first n = rw l at i.rest in
        rw i.item_size_is
        record {
          width = i.width;
          item_size_is = refl;
          small = omega (arith, i.small, z, l);
          many = i.many;
          room = omega (arith, m);
          rest = omega (arith, r, z);
        }

  pub held_bound : held + left ≤ 4097
  held_bound = omega (arith, i.small, i.many, per_page_bound i.width c)

  pub held_done : left ≡ 0 → (held ≡ held_from w b c first n) × (held ≤ n)
  unfolding held_from
  held_done e = let r : held + held_from w b c q 0 ≡ held_from w b c first n = rw e at i.rest in (omega (arith, r), omega (arith, i.small))

-- what the code reads of a page
module _ {w : ℕ} {b : List ℕ} {p c k : ℕ} {ss : List Slot} (a : PageAt w b p c k ss) where
  pub page_class : (x d : ℕ) → x ≡ word_at w b (first_item_at (shape w) p) → d ≡ class_in (shape w) x → d ≡ c
  page_class x d e f = f ∙ ap (class_in (shape w)) e ∙ go ss a.count a.shown
    where
      go : (ss : List Slot) → length ss ≡ (shape w).per_page c → Shows w b (slot_words (shape w) c a.list (first_item_at (shape w) p) ss) → class_in (shape w) (word_at w b (first_item_at (shape w) p)) ≡ c
      go [] n s = absurd (omega (arith, per_page_bound a.width c))
      go (y ∷ ss) n s = class_read a.width b a.list c a.few a.aligned (first_item_at (shape w) p) y ss s

  pub page_room : p + page_need (shape w) c ≤ end_of (length b)
  unfolding use_size
  page_room = let i : p + (page_need (shape w) c + k) ≤ end_of (length b) = rw a.count at a.inside in omega (arith, i)

  -- q is where the first header stands, x that header, d the class that it says and n the items' number, as code works them out
  module _ (q x d n : ℕ) (eq : q ≡ first_item_at (shape w) p) (e : x ≡ word_at w b q) (ed : d ≡ class_in (shape w) x) (en : n ≡ (shape w).per_page d) where
    class_told : d ≡ c
    class_told = page_class x d (e ∙ ap (word_at w b) eq) ed

    pub page_numbers : (d < (shape w).classes) × (q + n * item_size (shape w) d ≤ length b)
    page_numbers = rw (en, class_told, eq) (a.few, omega (arith, page_room))

    pub page_told : (m : ℕ) → m ≡ held_from w b d q n → PageTold (record { class = d; held = m; idle = n - m }) c ss
    page_told m g =
        let z = class_told in
        let n_is : n ≡ length ss = en ∙ ap (λ (y : ℕ). (shape w).per_page y) z ∙ sym a.count in
        let m-is : m ≡ held_in ss = g ∙ ap (λ (y : ℕ). held_from w b d y n) eq ∙ ap₂ (λ (y i : ℕ). held_from w b y (first_item_at (shape w) p) i) z n_is ∙ held_read w b a.list c (first_item_at (shape w) p) ss a.shown in
        record { class = z; held = m-is; idle = ap₂ (λ (i j : ℕ). i - j) n_is m-is }

-- the page at which a walk stands, in a heap that is laid out
pub laid_page : {w : ℕ} (wd : Width w) {b : List ℕ} {L : Layout} (h : Laid w b L) {p prev left : ℕ} (s : Standing w L p prev left) {t : ℕ} {e : t ≡ word_at w b p} {l : p < end_of (length b)}
    (q : PageThere wd h s t e l) → PageAt w b p q.class q.spare q.slots
unfolding own use_words Shows Allowed AllowedUse size_of
laid_page {w} wd {b} {L} h {p} s q =
    record {
      width = wd;
      few = q.met.allowed.0;
      count = q.met.allowed.1;
      inside = q.met.inside;
      list = get_or L.lists q.class [];
      aligned = next_even wd (get_or L.lists q.class []) (h.aligned q.class);
      shown = shows_left w b (slot_words (shape w) q.class (get_or L.lists q.class []) (first_item_at (shape w) p) q.slots)
          (record { at = far_tag_at (shape w) p (use_size (shape w) (page q.class q.spare q.slots)); is = tag_of (use_size (shape w) (page q.class q.spare q.slots)) page_kind } ∷ [])
          q.met.shown.1;
    }

-- a walk that counts, at its start, at each kind of block, and at its end
module _ {A : Type 0} {w : ℕ} (f : List Block → A) where
  pub going_start : Width w → (b : List ℕ) (p : ℕ) → p ≡ start (shape w) → Sound (shape w) b → (v : A) → v ≡ f [] → Going w f b p v
  going_start wd b p ep s v e = record { width = wd; sound = s; gone = λ L h. rw ep (gone_start f L v e) }

  module _ {b : List ℕ} {p : ℕ} {v : A} (g : Going w f b p v) where
    -- some blocks are passed
    pub record Some : Type 0 where
      pub pre : List Block
      pub allowed : AllAllowed (shape w) pre
      pub begins : ends (shape w) (start (shape w)) pre ≡ p
      pub so_far : v ≡ f pre

    pub going_some : Some
    going_some =
        let k = g.gone g.sound.layout g.sound.here in
        record { pre = k.pre; allowed = passed_allowed k.passed g.width (laid g.width g.sound.here); begins = k.passed.begins; so_far = k.so_far }

    pub going_done : end_of (length b) ≤ p → (L : Layout) → Here (shape w) b L → v ≡ f L.blocks
    going_done l L h = gone_done f g.width (laid g.width h) (g.gone L h) l

    module _ (t : ℕ) (e : t ≡ word_at w b p) (l : p < end_of (length b)) where
      pub going_inside : (least_free (shape w) ≤ size_in t) × (p + size_in t ≤ end_of (length b))
      going_inside =
          let k = g.gone g.sound.layout g.sound.here in
          let z = sized g.width (laid g.width g.sound.here) (stands k.passed) t e l in
          (z.least, z.inside)

      pub going_free : kind_in t ≡ free_kind → (u : A) → ((pre : List Block) → v ≡ f pre → u ≡ f (pre ++ (free (size_in t) ∷ []))) → Going w f b (p + size_in t) u
      unfolding size_of
      going_free z u more = record { width = g.width; sound = g.sound; gone = on }
        where
          on : (L : Layout) → Here (shape w) b L → Gone w f L (p + size_in t) u
          on L h =
              let k = g.gone L h in
              let r = is_free g.width (laid g.width h) (stands k.passed) t e l z in
              gone_on f g.width (laid g.width h) k (free (size_in t)) r.0 r.1 (size_in t) refl u (more k.pre k.so_far)

      pub going_variable : kind_in t ≡ variable_kind → (u : A) → ((pre : List Block) → v ≡ f pre → u ≡ f (pre ++ (used (variable (size_in t)) ∷ []))) → Going w f b (p + size_in t) u
      unfolding size_of use_size
      going_variable z u more = record { width = g.width; sound = g.sound; gone = on }
        where
          on : (L : Layout) → Here (shape w) b L → Gone w f L (p + size_in t) u
          on L h =
              let k = g.gone L h in
              let r = is_variable_lem g.width (laid g.width h) (stands k.passed) t e l z in
              gone_on f g.width (laid g.width h) k (used (variable (size_in t))) r.0 r.1 (size_in t) refl u (more k.pre k.so_far)

      module _ (z : kind_in t ≡ free_kind → ⊥) (y : kind_in t ≡ variable_kind → ⊥) where
        pub page_there : (L : Layout) (h : Here (shape w) b L) → PageThere g.width (laid g.width h) (stands (g.gone L h).passed) t e l
        page_there L h = is_page g.width (laid g.width h) (stands (g.gone L h).passed) t e l z y

        pub there_at : (L : Layout) (h : Here (shape w) b L) → PageAt w b p (page_there L h).class (page_there L h).spare (page_there L h).slots
        there_at L h = laid_page g.width (laid g.width h) (stands (g.gone L h).passed) (page_there L h)

        -- no other kind is left
        pub page_flag : kind_in t ≡ page_kind
        unfolding block_tag size_of
        page_flag = let q = page_there g.sound.layout g.sound.here in omega (arith, q.met.tag, q.met.eight)

        pub going_at_page : AtPage w b p
        going_at_page =
            let L = g.sound.layout in
            let h = g.sound.here in
            record { class = (page_there L h).class; spare = (page_there L h).spare; slots = (page_there L h).slots; at = there_at L h }

        pub going_page : (u : A) → ((pre : List Block) (c k : ℕ) (ss : List Slot) → PageAt w b p c k ss → v ≡ f pre → u ≡ f (pre ++ (used (page c k ss) ∷ []))) → Going w f b (p + size_in t) u
        unfolding size_of
        going_page u more = record { width = g.width; sound = g.sound; gone = on }
          where
            on : (L : Layout) → Here (shape w) b L → Gone w f L (p + size_in t) u
            on L h =
                let k = g.gone L h in
                let q = page_there L h in
                gone_on f g.width (laid g.width h) k (used (page q.class q.spare q.slots)) q.after q.rest (size_in t) q.size u
                (more k.pre q.class q.spare q.slots (there_at L h) k.so_far)

-- what is told of a page is small
pub page_small : {w : ℕ} {b : List ℕ} {p : ℕ} (a : AtPage w b p) (r : Page) → ((c k : ℕ) (ss : List Slot) → PageAt w b p c k ss → PageTold r c ss) → (r.class < (shape w).classes) × (r.held ≤ 4097) × (r.idle ≤ 4097)
page_small a r t =
    let q = t a.class a.spare a.slots a.at in
    (omega (arith, q.class, a.at.few), omega (arith, q.held, held_few a.slots, a.at.count, per_page_bound a.at.width a.class), omega (arith, q.idle, a.at.count, per_page_bound a.at.width a.class))

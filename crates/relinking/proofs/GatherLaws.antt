-- The entries of a class's pages are gathered by a walk over the blocks.
use Rattle.std.proofs.Common.{Some, None, ℕ, suc, ◌+◌, ◌*◌, ◌^◌, ◌≤◌, ◌<◌, ◌≡◌, refl, sym, ap, subst, ◌∙◌, List, [], ◌∷◌, ◌++◌, append-nil, arith, length, set, take, length-set, length-take-le, take-suc-set, eq-eqb, ne_eqb}
use Rattle.std.specs.declared.option.Option.{Option}
use Rattle.words.specs.Width.{Width}
use Rattle.words.specs.Word.{word_at}
use Rattle.model.specs.Shape.{shape, start, least_free, end_of}
use Rattle.model.specs.Parts.{size_in, kind_in, page_kind, class_in, first_item_at}
use Rattle.model.specs.Layout.{Slot, variable, page, Block, free, used, Layout, use_size, size_of, ends}
use Rattle.model.specs.inner.Laid.{Laid}
use Rattle.model.specs.inner.Walks.{Passed, Gone, last_free}
use Rattle.model.proofs.Sizes.{page_least, most_bound}
use Rattle.model.proofs.walks.Totals.{held_few}
use Rattle.model.proofs.walks.Standing.{Met, met, there, sized, size_is, is_page, block_tag}
use Rattle.model.proofs.walks.Passing.{stands, passed_allowed, gone_start, gone_on, gone_done}
use Rattle.reading.specs.declared.counting.Page.{Page}
use Rattle.reading.specs.Counting.{PageAt, AtPage, PageTold}
use Rattle.reading.proofs.ReadingLaws.{laid_page, page_class, page_room}
use Rattle.relinking.specs.Relink.{live_room, entry_of, Roomy, entries, leaf, leaves, AtBlock, unless_none, EntryTold, Ready, Gathered}
use Rattle.relinking.proofs.Leaves.{live_room_lem, entries_more, leaves_fit}

-- what the tag t of the block x at p says of it
module _ {w : ℕ} (wd : Width w) {b : List ℕ} {L : Layout} (h : Laid w b L) {p t : ℕ} (e : t ≡ word_at w b p) (l : p < end_of (length b)) (c : ℕ) where
  met_at : {pre after : List Block} {x : Block} (s : Passed w L p pre (x ∷ after)) → Met w b L p (last_free (shape w) (start (shape w)) pre 0) x after
  met_at {pre} {after} {x} s = met wd h (stands s) x after refl

  page_here : {pre after : List Block} {a k : ℕ} {ss : List Slot} (s : Passed w L p pre (used (page a k ss) ∷ after)) → PageAt w b p a k ss
  unfolding size_of
  page_here {pre} {after} {a} {k} {ss} s =
      laid_page wd h (stands s) {t = t} {e = e} {l = l} (record { class = a; spare = k; slots = ss; after = after; rest = refl; met = met_at s; size = size_is wd h (stands s) t e l (used (page a k ss)) after (met_at s) })

  no_page : {pre after : List Block} (x : Block) → Passed w L p pre (x ∷ after) → (kind_in t ≡ page_kind → ⊥) → entries (leaf (shape w) c p x) ≡ []
  unfolding entries leaf block_tag size_of
  no_page (free s) m n = refl
  no_page (used (variable s)) m n = refl
  no_page (used (page d k ss)) m n = absurd (n (omega (arith, e, (met_at m).tag, (met_at m).eight)))

  -- d is the class that its first item says
  other_class : {pre after : List Block} (x : Block) → Passed w L p pre (x ∷ after) → (y d : ℕ) → y ≡ word_at w b (first_item_at (shape w) p) → d ≡ class_in (shape w) y → (d ≡ c → ⊥) → entries (leaf (shape w) c p x) ≡ []
  unfolding entries leaf
  other_class (free s) m y d ey ed n = refl
  other_class (used (variable s)) m y d ey ed n = refl
  other_class (used (page a k ss)) m y d ey ed n = rw (ne_eqb c a (λ z. n (page_class (page_here m) y d ey ed ∙ sym z))) refl

  this_page : {pre after : List Block} (x : Block) → Passed w L p pre (x ∷ after) → kind_in t ≡ page_kind → (y d : ℕ) → y ≡ word_at w b (first_item_at (shape w) p) → d ≡ class_in (shape w) y → d ≡ c
      → (r : Page) → ((a k : ℕ) (ss : List Slot) → PageAt w b p a k ss → PageTold r a ss) → entries (leaf (shape w) c p x) ≡ unless_none (Some (entry_of p r.held))
  unfolding entries leaf block_tag size_of use_size
  this_page (free s) m z y d ey ed n r told = absurd (omega (arith, e, (met_at m).tag, (met_at m).eight))
  this_page (used (variable s)) m z y d ey ed n r told = absurd (omega (arith, e, (met_at m).tag, (met_at m).eight))
  this_page {pre} (used (page a k ss)) m z y d ey ed n r told =
      let f = page_class (page_here m) y d ey ed in
      let g = (told a k ss (page_here m)).held in
      rw (eq-eqb c a (sym n ∙ f), g) refl

module _ {w : ℕ} {b : List ℕ} {p t : ℕ} (k : AtBlock w b p t) where
  -- the block that there is
  at_sized : (least_free (shape w) ≤ size_in t) × (p + size_in t ≤ end_of (length b))
  at_sized = let z = sized k.width k.laid (stands k.passed) t k.tag k.inside in (z.least, z.inside)

  -- where its tag says so it is a page
  pub at_page : kind_in t ≡ page_kind → AtPage w b p
  at_page z =
      let q = is_page k.width k.laid (stands k.passed) t k.tag k.inside (λ i. omega arith) (λ i. omega arith) in
      record { class = q.class; spare = q.spare; slots = q.slots; at = laid_page k.width k.laid (stands k.passed) q }

  pub at_room : kind_in t ≡ page_kind → p + 4 * w ≤ length b
  at_room z = let a = (at_page z).at in omega (arith, page_room a, page_least k.width (at_page z).class)

  pub at_small : p < 2 ^ 31
  at_small = omega (arith, k.inside, k.short, most_bound k.width, k.width)

  pub at_held : (z : kind_in t ≡ page_kind) (r : Page) → ((a j : ℕ) (ss : List Slot) → PageAt w b p a j ss → PageTold r a ss) → r.held < live_room
  at_held z r told =
      let a = at_page z in
      let g = (told a.class a.spare a.slots a.at).held in
      omega (arith, g, held_few a.slots, a.at.count, live_room_lem k.width a.class)

  pub told_none : (c : ℕ) → (kind_in t ≡ page_kind → ⊥) → EntryTold w b p c None
  told_none c n = record { is = λ L pre after x h s. no_page k.width h k.tag k.inside c x s n }

  -- q is where the first item's header stands, and y that header, as code works them out
  pub told_other : (c q y d : ℕ) → q ≡ first_item_at (shape w) p → y ≡ word_at w b q → d ≡ class_in (shape w) y → (d ≡ c → ⊥) → EntryTold w b p c None
  told_other c q y d eq ey ed n = record { is = λ L pre after x h s. other_class k.width h k.tag k.inside c x s y d (ey ∙ ap (word_at w b) eq) ed n }

  pub told_page : (c : ℕ) → kind_in t ≡ page_kind → (q y d : ℕ) → q ≡ first_item_at (shape w) p → y ≡ word_at w b q → d ≡ class_in (shape w) y → d ≡ c
      → (r : Page) → ((a j : ℕ) (ss : List Slot) → PageAt w b p a j ss → PageTold r a ss) → (e : ℕ) → e ≡ entry_of p r.held → EntryTold w b p c (Some e)
  told_page c z q y d eq ey ed n r told e ee =
      record {
        is = λ L pre after x h s.
            this_page k.width h k.tag k.inside c x s z y d (ey ∙ ap (word_at w b) eq) ed n r told ∙ ap (λ (i : ℕ). unless_none (Some i)) (sym ee);
      }

-- the walk stands at p, and the entries of the blocks before it are the first m of the table
pub record Gathering (w : ℕ) (b : List ℕ) (c : ℕ) (table : List ℕ) (p m : ℕ) : Type 0 where
  pub heap : Ready w b
  pub room : Roomy w (length b) (length table)
  pub fits : m ≤ length table
  pub gone : (L : Layout) → Laid w b L → Gone w (λ pre. entries (leaves (shape w) c (start (shape w)) pre)) L p (take m table)

pub gather_start : {w : ℕ} {b : List ℕ} → Ready w b → (c : ℕ) (table : List ℕ) (p : ℕ) → p ≡ start (shape w) → Roomy w (length b) (length table) → Gathering w b c table p 0
unfolding entries leaves
gather_start {w} k c table p e r = record { heap = k; room = r; fits = omega arith; gone = λ L h. rw e (gone_start (λ pre. entries (leaves (shape w) c (start (shape w)) pre)) L [] refl) }

module _ {w : ℕ} {b : List ℕ} {c : ℕ} {table : List ℕ} {p m : ℕ} (g : Gathering w b c table p m) where
  pub gather_done : end_of (length b) ≤ p → (L : Layout) → Laid w b L → Gathered w c L (take m table)
  gather_done l L h = record { are = gone_done (λ pre. entries (leaves (shape w) c (start (shape w)) pre)) g.heap.width h (g.gone L h) l }

  module _ (l : p < end_of (length b)) where
    -- there is room for one entry more
    pub gather_room : m < length table
    gather_room =
        let k = g.heap in
        let z = g.gone k.layout k.laid in
        let n : m ≡ length (entries (leaves (shape w) c (start (shape w)) z.pre)) = sym (length-take-le m table g.fits) ∙ ap length z.so_far in
        omega (arith, n, leaves_fit k.width c p z.pre (passed_allowed z.passed k.width k.laid) z.passed.begins (length table) (omega (arith, g.room)))

    module _ (t : ℕ) (e : t ≡ word_at w b p) where
      pub gather_at : AtBlock w b p t
      gather_at =
          let k = g.heap in
          let z = g.gone k.layout k.laid in
          record { width = k.width; layout = k.layout; laid = k.laid; short = k.short; pre = z.pre; rest = z.rest; passed = z.passed; inside = l; tag = e }

      pub gather_sized : (4 * w ≤ size_in t) × (p + size_in t ≤ end_of (length b))
      gather_sized = at_sized gather_at

      module _ (r : Option ℕ) (told : EntryTold w b p c r) where
        -- the walk goes on, and the entry with it
        on : (table' : List ℕ) (m' : ℕ) → take m' table' ≡ take m table ++ unless_none r → (L : Layout) → Laid w b L → Gone w (λ pre. entries (leaves (shape w) c (start (shape w)) pre)) L (p + size_in t) (take m' table')
        on table' m' more L h =
            let wd = g.heap.width in
            let k = g.gone L h in
            let x = there wd h (stands k.passed) l in
            let s : Passed w L p k.pre (x.block ∷ x.after) = subst (λ (r : List Block). Passed w L p k.pre r) x.rest k.passed in
            let here : entries (leaf (shape w) c (ends (shape w) (start (shape w)) k.pre) x.block) ≡ unless_none r = rw k.passed.begins (told.is L k.pre x.after x.block h s) in
            gone_on (λ pre. entries (leaves (shape w) c (start (shape w)) pre)) wd h k x.block x.after x.rest (size_in t) (size_is wd h (stands k.passed) t e l x.block x.after x.met) (take m' table')
            (more ∙ rw (k.so_far, ← here) (sym (entries_more (shape w) c (start (shape w)) k.pre x.block)))

        pub gather_none : r ≡ None → (s : ℕ) → s ≡ size_in t → Gathering w b c table (p + s) m
        gather_none z s es =
            rw es
            (record { heap = g.heap; room = g.room; fits = g.fits; gone = on table m (sym (ap (λ (y : Option ℕ). take m table ++ unless_none y) z ∙ append-nil (take m table))) })

        pub gather_more : (i : ℕ) → r ≡ Some i → (s : ℕ) → s ≡ size_in t → Gathering w b c (set table m i) (p + s) (m + 1)
        gather_more i z s es =
            let n = length-set table m i in
            let one : m + 1 ≡ suc m = omega arith in
            rw (es, one)
            (record {
              heap = g.heap;
              room = rw n g.room;
              fits = omega (arith, n, gather_room);
              gone = on (set table m i) (suc m) (take-suc-set table m i gather_room ∙ sym (ap (λ (y : Option ℕ). take m table ++ unless_none y) z));
            })

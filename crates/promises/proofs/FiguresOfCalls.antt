-- The figures' tables, of the calls themselves: one statement over the word size.
use Rattle.std.proofs.Common.{ℕ, ◌%◌, ◌≤◌, ◌<◌, ◌≡◌, refl, sym, ap, ap₂, subst, ◌∙◌, Bool, true, false, cond, ◌&&◌, List, [], ◌∷◌, ⊎_elim, arith, length, eqb, leb, eq-eqb, ne_eqb, le-leb}
use Rattle.std.proofs.Math.Bool.{false≢true}
use Rattle.std.proofs.Math.Option.{Option, none, some, none-ne-some, some-injective}
use Rattle.std.proofs.Math.Decide.{ℕ_discrete, dec_le, dec_lt}
use Rattle.std.proofs.lemmas.Bool.{lt-leb}
use Rattle.words.specs.Width.{Width}
use Rattle.words.specs.Word.{word_at, Bytes}
use Rattle.model.specs.Picture.{Word, Shows}
use Rattle.model.specs.Shape.{shape, start, shortest, least_end, end_of}
use Rattle.model.specs.Layout.{Layout, head_of, next_of, use_size, size_of, ends, first_free, header, slot_words, use_words, own, block_words, head_words, fixed_low, fixed_high, words}
use Rattle.model.specs.Sound.{MayEnd, stored_end, heap_of, HereIn, idle_slots, idle_in}
use Rattle.model.specs.Rules.{fit, before, in_front, extended, cut, slot_to, use_to, item_to, from_list, from_page, an_item, a_block, allocate, growth, in_slots, find_from, freed, shrunk, grown, reshaped, stays, fresh}
use Rattle.model.specs.Live.{◌∈◌}
use Rattle.model.specs.Reading.{total, held_in, of_block}
use Rattle.model.specs.Sweeping.{empty_page, idle_with, relinked, relinked_from}
use Rattle.model.specs.Refusals.{bad_length}
use Rattle.model.specs.Calls.{Outcome, refused, fronted, Lent, Opened, Initialises}
use Rattle.model.specs.Promises.{Call, initialising, checking, allocating, freeing, resizing, resizing_by, sweeping, Comes, Reply}
use Rattle.promises.specs.Figures.{BadEnds, says, Figure, table, hand_table, Outcomes, heap_then, heap_before, answered, OnBytes}
use Rattle.model.proofs.Sizes.{eight, four}
use Rattle.model.proofs.rules.OnLayouts.{resized_by_on, resized_on, recovered, doing}
use Rattle.model.specs.inner.Laid.{Tiled}
use Rattle.model.proofs.Good.{shape_good}
use Rattle.model.proofs.pictures.Pictures.{Outside, rise_out, shows_same}
use Rattle.model.proofs.pictures.Drawn.{tiled, rise_words}
use Rattle.model.proofs.pictures.Fronts.{fronted_own, front_below, own_length}
use Rattle.promises.proofs.Opened.{fresh_of_lem}
use Rattle.promises.proofs.Answers.{DoesIn}
use Rattle.promises.proofs.Doing.{does}

-- what is answered of a buffer of a bad length
all_bad : List Call → List Reply
all_bad [] = []
all_bad (q ∷ qs) = says bad_length 0 ∷ all_bad qs

-- the value of a picture's word at a position
value_at : ℕ → List Word → Option ℕ
value_at p [] = none
value_at p (x ∷ xs) = let later = value_at p xs in cond (eqb p x.at) (some x.is) later

-- a picture's values where a figure names words, and the figure's
values_at : List Word → List Word → List (Option ℕ)
values_at ws [] = []
values_at ws (v ∷ vs) = value_at v.at ws ∷ values_at ws vs

values : List Word → List (Option ℕ)
values [] = []
values (v ∷ vs) = some v.is ∷ values vs

-- what is seen of a figure: that a heap may be started there, the answers, the values of its words, and the last layout where nothing changes; as layouts give them, and as it says
record Seen : Type 0 where
  good : Bool
  answers : List Reply
  values : List (Option ℕ)
  last : Option Layout

-- two lists that are one have one head and one tail
head_or : {A : Type 0} → A → List A → A
head_or d [] = d
head_or d (x ∷ xs) = x

tail_of : {A : Type 0} → List A → List A
tail_of [] = []
tail_of (x ∷ xs) = xs

head_same : {A : Type 0} (x y : A) (xs ys : List A) → x ∷ xs ≡ y ∷ ys → x ≡ y
unfolding head_or
head_same x y xs ys e = ap (head_or x) e

tail_same : {A : Type 0} (x y : A) (xs ys : List A) → x ∷ xs ≡ y ∷ ys → xs ≡ ys
unfolding tail_of
tail_same x y xs ys e = ap tail_of e

module _ (w : ℕ) where
  -- in a buffer whose furthest end is E
  module _ (E : ℕ) where
    -- the same calls on layouts: the layout then, and before the last; and what is answered
    layout_then : Layout → List Call → Layout
    layout_then L [] = L
    layout_then L (q ∷ qs) = layout_then (doing (shape w) E q L).layout qs

    layout_before : Layout → List Call → Layout
    layout_before L [] = L
    layout_before L (q ∷ []) = L
    layout_before L (q ∷ p ∷ qs) = layout_before (doing (shape w) E q L).layout (p ∷ qs)

    answers_on : Layout → List Call → List Reply
    answers_on L [] = []
    answers_on L (q ∷ qs) = says (doing (shape w) E q L).refusal (doing (shape w) E q L).address ∷ answers_on (doing (shape w) E q L).layout qs

    last_on : Layout → List Call → Option Layout
    last_on L [] = none
    last_on L (q ∷ qs) = some (layout_then L (q ∷ qs))

  -- n bytes are lent, and then a heap may be started at e
  lends : ℕ → Bool
  lends n = leb (shortest (shape w)) n && leb n (shape w).most

  begins : ℕ → ℕ → Bool
  begins n e = cond (lends n) (cond (leb (least_end (shape w) (end_of n)) e) (cond (leb e (end_of n)) (eqb (e % 8) 0) false) false) true

  -- from a heap in n bytes that is started at e on: the answers, the picture then, and the layout that the last call leaves, if there is one
  answers_from : ℕ → ℕ → List Call → List Reply
  answers_from n e qs = cond (lends n) (says 0 0 ∷ answers_on (end_of n) (fresh (shape w) e) qs) (says bad_length 0 ∷ all_bad qs)

  picture_of : Layout → List Word
  picture_of L = words (shape w) (ends (shape w) (start (shape w)) L.blocks) L

  picture_from : ℕ → ℕ → List Call → List Word
  picture_from n e qs = cond (lends n) (picture_of (layout_then (end_of n) (fresh (shape w) e) qs)) []

  last_from : ℕ → ℕ → List Call → Option Layout
  last_from n e qs = cond (lends n) (last_on (end_of n) (fresh (shape w) e) qs) none

  computed : Figure → Seen
  computed f =
      record {
        good = begins f.bytes f.start;
        answers = answers_from f.bytes f.start f.calls;
        values = values_at (picture_from f.bytes f.start f.calls) f.words;
        last = cond f.still (last_from f.bytes f.start f.calls) none;
      }

  stated : Figure → Seen
  stated f =
      record { good = true; answers = f.answers; values = values f.words; last = cond f.still (some (layout_before (end_of f.bytes) (fresh (shape w) f.start) f.calls)) none }

  all_computed : List Figure → List Seen
  all_computed [] = []
  all_computed (f ∷ fs) = computed f ∷ all_computed fs

  all_stated : List Figure → List Seen
  all_stated [] = []
  all_stated (f ∷ fs) = stated f ∷ all_stated fs

  -- a picture's value is a word of bytes that show it
  value_there : (b : List ℕ) (ws : List Word) (p v : ℕ) → Shows w b ws → value_at p ws ≡ some v → word_at w b p ≡ v
  unfolding Shows value_at
  value_there b [] p v h e = absurd (none-ne-some v e)
  value_there b (x ∷ xs) p v h e = go (ℕ_discrete p x.at) (value_there b xs p v h.1)
    where
      go : Dec (p ≡ x.at) → (value_at p xs ≡ some v → word_at w b p ≡ v) → word_at w b p ≡ v
      go (yes i) later = ap (λ (z : ℕ). word_at w b z) i ∙ h.0 ∙ some-injective x.is v (rw (eq-eqb p x.at i) at e)
      go (no i) later = later (rw (ne_eqb p x.at i) at e)

  -- and so are all that a figure names
  values_there : (b : List ℕ) (ws vs : List Word) → Shows w b ws → values_at ws vs ≡ values vs → Shows w b vs
  unfolding Shows values_at values
  values_there b ws [] h e = tt
  values_there b ws (v ∷ vs) h e = (
    value_there b ws v.at v.is h (head_same (value_at v.at ws) (some v.is) (values_at ws vs) (values vs) e),
    values_there b ws vs h (tail_same (value_at v.at ws) (some v.is) (values_at ws vs) (values vs) e),
  )

module _ {w : ℕ} (wd : Width w) where
  -- a run from a sound heap on, in a buffer whose furthest end is E
  record Ran (E : ℕ) (b : List ℕ) (L : Layout) (qs : List Call) (rs : List Outcome) : Type 0 where
    answers : answered rs ≡ answers_on w E L qs
    same : length (heap_then b rs) ≡ length b
    here : HereIn (shape w) (heap_then b rs) (layout_then w E L qs)

  runs : (E : ℕ) (qs : List Call) (b : List ℕ) (L : Layout) (rs : List Outcome) → end_of (length b) ≡ E → Lent (shape w) b → HereIn (shape w) b L → Outcomes w b qs rs → Ran E b L qs rs
  unfolding Outcomes heap_then answered layout_then answers_on
  runs E [] b L [] z l h o = record { answers = refl; same = refl; here = h }
  runs E [] b L (r ∷ rs) z l h o = absurd o
  runs E (q ∷ qs) b L [] z l h o = absurd o
  runs E (q ∷ qs) b L (r ∷ rs) z l h o =
      let d : DoesIn wd b L r (doing (shape w) E q L) = subst (λ (x : ℕ). DoesIn wd b L r (doing (shape w) x q L)) z (does wd b L l h q r o.0) in
      let t = runs E qs r.heap (doing (shape w) E q L).layout rs (ap end_of d.same ∙ z) (omega (arith, d.same, l.0), omega (arith, d.same, l.1)) d.here o.1 in
      record {
        answers = ap₂ (λ (x : ℕ) (y : ℕ). says x y ∷ answered rs) d.refusal d.address ∙ ap (λ (v : List Reply). says (doing (shape w) E q L).refusal (doing (shape w) E q L).address ∷ v) t.answers;
        same = t.same ∙ d.same;
        here = t.here;
      }

  -- a buffer of a bad length: every call answers 1
  bad_comes : (b : List ℕ) (q : Call) (r : Outcome) → (Lent (shape w) b → ⊥) → Comes (shape w) b q r → r ≡ refused b bad_length
  unfolding Comes
  bad_comes b (initialising e) r n c = c.one n
  bad_comes b checking r n c = c.one n
  bad_comes b (allocating k) r n c = c.one n
  bad_comes b (freeing a) r n c = c.one n
  bad_comes b (resizing a k) r n c = c.one n
  bad_comes b (resizing_by v a k) r n c = c.one n
  bad_comes b sweeping r n c = c.one n

  bad_runs : (qs : List Call) (b : List ℕ) (rs : List Outcome) → (Lent (shape w) b → ⊥) → Outcomes w b qs rs → answered rs ≡ all_bad qs
  unfolding Outcomes answered all_bad
  bad_runs [] b [] n o = refl
  bad_runs [] b (r ∷ rs) n o = absurd o
  bad_runs (q ∷ qs) b [] n o = absurd o
  bad_runs (q ∷ qs) b (r ∷ rs) n o =
      let e = bad_comes b q r n o.0 in
      let m : Lent (shape w) r.heap → ⊥ = subst (λ (x : Outcome). Lent (shape w) x.heap → ⊥) (sym e) n in
      ap₂ (λ (x : Outcome) (y : List Reply). says x.refusal x.address ∷ y) e (bad_runs qs r.heap rs m o.1)

  -- a layout's picture stands in a buffer that has it
  pictured : (b : List ℕ) (L : Layout) → length b ≤ (shape w).most → HereIn (shape w) b L → Shows w b (picture_of w L)
  unfolding picture_of
  pictured b L short h =
      let ended : end_of (length (heap_of (shape w) b)) ≡ ends (shape w) (start (shape w)) L.blocks = sym h.here.valid.fills in
      let own : Shows w (heap_of (shape w) b) (words (shape w) (ends (shape w) (start (shape w)) L.blocks) L) = subst (λ (x : ℕ). Shows w (heap_of (shape w) b) (words (shape w) x L)) ended h.here.shown in
      subst (λ (x : List ℕ). Shows w x (words (shape w) (ends (shape w) (start (shape w)) L.blocks) L)) (fronted_own (stored_end (shape w) b) b)
      (shows_same w _ (heap_of (shape w) b) (fronted (heap_of (shape w) b) b) (λ i o. front_below (heap_of (shape w) b) b i (within i o)) own)
    where
      within : (i : ℕ) → (Outside w i (words (shape w) (ends (shape w) (start (shape w)) L.blocks) L) → ⊥) → i < length (heap_of (shape w) b)
      within i o = go (dec_lt i (length (heap_of (shape w) b)))
        where
          go : Dec (i < length (heap_of (shape w) b)) → i < length (heap_of (shape w) b)
          go (yes k) = k
          go (no k) = absurd (o (rise_out w 8 (words (shape w) (ends (shape w) (start (shape w)) L.blocks) L) (ends (shape w) (start (shape w)) L.blocks) i
              (rise_words (shape w) (shape_good wd) (ends (shape w) (start (shape w)) L.blocks) L (subst (λ (x : ℕ). Tiled (shape w) x L) (sym h.here.valid.fills) (tiled (shape w) h.here.valid)) (omega (arith, h.here.valid.fills, own_length (shape w) b L h, h.ended.1, short)))
              (λ _ q. omega (arith, q, k, h.here.valid.fills))))

  -- a heap may be started where a figure starts it
  may_begin : (n e : ℕ) → lends w n ≡ true → begins w n e ≡ true → MayEnd (shape w) n e
  unfolding begins
  may_begin n e l g = go (dec_le (least_end (shape w) (end_of n)) e) (dec_le e (end_of n)) (ℕ_discrete (e % 8) 0)
    where
      go : Dec (least_end (shape w) (end_of n) ≤ e) → Dec (e ≤ end_of n) → Dec (e % 8 ≡ 0) → MayEnd (shape w) n e
      go (yes x) (yes y) (yes z) = (x, y, z)
      go (no x) y z = absurd (false≢true (rw (l, lt-leb (least_end (shape w) (end_of n)) e (omega (arith, x))) at g))
      go (yes x) (no y) z = absurd (false≢true (rw (l, le-leb (least_end (shape w) (end_of n)) e x, lt-leb e (end_of n) (omega (arith, y))) at g))
      go (yes x) (yes y) (no z) = absurd (false≢true (rw (l, le-leb (least_end (shape w) (end_of n)) e x, le-leb e (end_of n) y, ne_eqb (e % 8) 0 z) at g))

  -- initialise and a run from any bytes that are not yet a heap
  module _ (b : List ℕ) (n : Opened (shape w) b → ⊥) (e : ℕ) (well : begins w (length b) e ≡ true) (qs : List Call) (r : Outcome) (rs : List Outcome) (c : Initialises (shape w) b e r) (o : Outcomes w r.heap qs rs) where
    abbrev Given : Type 0
    Given = (answered (r ∷ rs) ≡ answers_from w (length b) e qs) × Shows w (heap_then b (r ∷ rs)) (picture_from w (length b) e qs)

    given_bad : (Lent (shape w) b → ⊥) → lends w (length b) ≡ false → Given
    unfolding answered answers_from picture_from Shows
    given_bad m k =
        let i = c.one m in
        let j = bad_runs qs r.heap rs (subst (λ (x : Outcome). Lent (shape w) x.heap → ⊥) (sym i) m) o in
        rw k (ap₂ (λ (x : Outcome) (y : List Reply). says x.refusal x.address ∷ y) i j, tt)

    given_lent : Lent (shape w) b → lends w (length b) ≡ true → Given
    unfolding answered answers_from picture_from heap_then
    given_lent l k =
        let m = may_begin (length b) e k well in
        let i = c.opens l n m in
        let g = fresh_of_lem wd b e r c l n m in
        let t = runs (end_of (length b)) qs r.heap (fresh (shape w) e) rs (ap end_of g.same) (omega (arith, g.same, l.0), omega (arith, g.same, l.1)) g.here o in
        rw k (
          ap₂ (λ (x : ℕ) (y : ℕ). says x y ∷ answered rs) (ap (λ (x : Outcome). x.refusal) i) (ap (λ (x : Outcome). x.address) i) ∙ ap (λ (z : List Reply). says 0 0 ∷ z) t.answers,
          pictured (heap_then r.heap rs) (layout_then w (end_of (length b)) (fresh (shape w) e) qs) (omega (arith, t.same, g.same, l.1)) t.here,
        )

    given : Given
    given = go (dec_le (shortest (shape w)) (length b)) (dec_le (length b) (shape w).most)
      where
        go : Dec ((shortest (shape w)) ≤ length b) → Dec (length b ≤ (shape w).most) → Given
        go (no x) y = given_bad (λ l. x l.0) (unfold lends in rw (lt-leb (shortest (shape w)) (length b) (omega arith)) refl)
        go (yes x) (no y) = given_bad (λ l. y l.1) (unfold lends in rw (le-leb (shortest (shape w)) (length b) x, lt-leb (length b) (shape w).most (omega arith)) refl)
        go (yes x) (yes y) = given_lent (x, y) (unfold lends in rw (le-leb (shortest (shape w)) (length b) x, le-leb (length b) (shape w).most y) refl)

  -- a last call that leaves the layout leaves every byte
  still_runs : (E : ℕ) (q : Call) (qs : List Call) (b : List ℕ) (L : Layout) (rs : List Outcome) → end_of (length b) ≡ E → Lent (shape w) b → HereIn (shape w) b L → Outcomes w b (q ∷ qs) rs
      → layout_then w E L (q ∷ qs) ≡ layout_before w E L (q ∷ qs) → Bytes b → heap_then b rs ≡ heap_before b rs
  unfolding Outcomes heap_then heap_before layout_then layout_before
  still_runs E q qs b L [] z l h o e k = absurd o
  still_runs E q [] b L (r ∷ []) z l h o e k = (does wd b L l h q r o.0).still (ap (λ (x : ℕ). (doing (shape w) x q L).layout) z ∙ e) k
  still_runs E q [] b L (r ∷ t ∷ rs) z l h o e k = absurd o.1
  still_runs E q (p ∷ qs) b L (r ∷ []) z l h o e k = absurd o.1
  still_runs E q (p ∷ qs) b L (r ∷ t ∷ rs) z l h o e k =
      let d : DoesIn wd b L r (doing (shape w) E q L) = subst (λ (x : ℕ). DoesIn wd b L r (doing (shape w) x q L)) z (does wd b L l h q r o.0) in
      still_runs E p qs r.heap (doing (shape w) E q L).layout (t ∷ rs) (ap end_of d.same ∙ z) (omega (arith, d.same, l.0), omega (arith, d.same, l.1)) d.here o.1 e (d.bytes k)

  -- there is a last layout only of a good length
  last_lent : (n e : ℕ) (qs : List Call) (M : Layout) → last_from w n e qs ≡ some M → ((shortest (shape w)) ≤ n) × (n ≤ (shape w).most) × (lends w n ≡ true) × (last_on w (end_of n) (fresh (shape w) e) qs ≡ some M)
  unfolding last_from lends
  last_lent n e qs M k = go (dec_le (shortest (shape w)) n) (dec_le n (shape w).most)
    where
      go : Dec ((shortest (shape w)) ≤ n) → Dec (n ≤ (shape w).most) → ((shortest (shape w)) ≤ n) × (n ≤ (shape w).most) × (lends w n ≡ true) × (last_on w (end_of n) (fresh (shape w) e) qs ≡ some M)
      go (no x) y = absurd (none-ne-some M (rw (lt-leb (shortest (shape w)) n (omega arith)) at k))
      go (yes x) (no y) = absurd (none-ne-some M (rw (le-leb (shortest (shape w)) n x, lt-leb n (shape w).most (omega arith)) at k))
      go (yes x) (yes y) = (x, y, rw (le-leb (shortest (shape w)) n x, le-leb n (shape w).most y) refl, rw (le-leb (shortest (shape w)) n x, le-leb n (shape w).most y) at k)

  -- after initialise
  still_from : (b : List ℕ) → (Opened (shape w) b → ⊥) → (e : ℕ) → begins w (length b) e ≡ true → (qs : List Call) (r : Outcome) (rs : List Outcome) → Initialises (shape w) b e r → Outcomes w r.heap qs rs
      → last_from w (length b) e qs ≡ some (layout_before w (end_of (length b)) (fresh (shape w) e) qs) → Bytes b → heap_then b (r ∷ rs) ≡ heap_before b (r ∷ rs)
  unfolding Outcomes heap_then heap_before last_on
  still_from b n e g [] r rs c o k y = absurd (none-ne-some (layout_before w (end_of (length b)) (fresh (shape w) e) []) (last_lent (length b) e [] (layout_before w (end_of (length b)) (fresh (shape w) e) []) k).3)
  still_from b n e g (q ∷ qs) r [] c o k y = absurd o
  still_from b n e g (q ∷ qs) r (t ∷ rs) c o k y =
      let m = last_lent (length b) e (q ∷ qs) (layout_before w (end_of (length b)) (fresh (shape w) e) (q ∷ qs)) k in
      let f = fresh_of_lem wd b e r c (m.0, m.1) n (may_begin (length b) e m.2 g) in
      still_runs (end_of (length b)) q qs r.heap (fresh (shape w) e) (t ∷ rs) (ap end_of f.same) (omega (arith, f.same, m.0), omega (arith, f.same, m.1)) f.here o
      (some-injective (layout_then w (end_of (length b)) (fresh (shape w) e) (q ∷ qs)) (layout_before w (end_of (length b)) (fresh (shape w) e) (q ∷ qs)) m.3) (f.bytes y)

  -- the law: what layouts give of a figure, the calls give
  carried : (f : Figure) → computed w f ≡ stated w f → OnBytes w f
  unfolding computed stated Outcomes Comes
  carried f e b k n [] o = absurd o
  carried f e b k n (r ∷ rs) o =
      let well : begins w (length b) f.start ≡ true = ap (λ (x : ℕ). begins w x f.start) k ∙ ap (λ (s : Seen). s.good) e in
      let g = given b n f.start well f.calls r rs o.0 o.1 in (
        g.0 ∙ ap (λ (x : ℕ). answers_from w x f.start f.calls) k ∙ ap (λ (s : Seen). s.answers) e,
        values_there w (heap_then b (r ∷ rs)) (picture_from w f.bytes f.start f.calls) f.words (subst (λ (x : ℕ). Shows w (heap_then b (r ∷ rs)) (picture_from w x f.start f.calls)) k g.1) (ap (λ (s : Seen). s.values) e),
        (λ t z. still_from b n f.start well f.calls r rs o.0 o.1 (subst (λ (x : ℕ). last_from w x f.start f.calls ≡ some (layout_before w (end_of x) (fresh (shape w) f.start) f.calls)) (sym k) (rw t at (ap (λ (s : Seen). s.last) e))) z),
      )

  all_carried : (fs : List Figure) → all_computed w fs ≡ all_stated w fs → (f : Figure) → f ∈ fs → OnBytes w f
  unfolding all_computed all_stated ◌∈◌
  all_carried [] e f i = absurd i
  all_carried (x ∷ xs) e f i =
      ⊎_elim (λ j. carried f (rw j (head_same (computed w x) (stated w x) (all_computed w xs) (all_stated w xs) e)))
      (all_carried xs (tail_same (computed w x) (stated w x) (all_computed w xs) (all_stated w xs) e) f) i

-- the tables, computed
on_layouts : all_computed 8 table ≡ all_stated 8 table
unfolding table begins picture_of extended growth layout_then layout_before last_on last_from answers_on all_bad lends answers_from picture_from value_at values_at values computed stated all_computed all_stated resized_by_on resized_on empty_page idle_in idle_with relinked relinked_from recovered total held_in of_block doing head_of next_of use_size size_of ends first_free header slot_words use_words own block_words head_words fixed_low fixed_high words idle_slots fit before in_front cut slot_to use_to item_to from_list from_page an_item a_block allocate in_slots find_from freed shrunk grown reshaped stays
on_layouts = refl

hand_on_layouts : all_computed 4 hand_table ≡ all_stated 4 hand_table
unfolding hand_table begins picture_of extended growth layout_then layout_before last_on last_from answers_on all_bad lends answers_from picture_from value_at values_at values computed stated all_computed all_stated resized_by_on resized_on empty_page idle_in idle_with relinked relinked_from recovered total held_in of_block doing head_of next_of use_size size_of ends first_free header slot_words use_words own block_words head_words fixed_low fixed_high words idle_slots fit before in_front cut slot_to use_to item_to from_list from_page an_item a_block allocate in_slots find_from freed shrunk grown reshaped stays
hand_on_layouts = refl

-- every figure of the tables holds of the calls
pub figures_of_calls : (f : Figure) → f ∈ table → OnBytes 8 f
figures_of_calls = all_carried eight table on_layouts

pub hand_figures_of_calls : (f : Figure) → f ∈ hand_table → OnBytes 4 f
hand_figures_of_calls = all_carried four hand_table hand_on_layouts

-- starting ends at which no heap of 10,000 bytes may be
pub bad_ends : BadEnds 8 10000 (0 ∷ 312 ∷ 336 ∷ 340 ∷ 343 ∷ 345 ∷ 9999 ∷ 10001 ∷ 10004 ∷ 10008 ∷ [])
unfolding ◌∈◌
bad_ends e i b r k n c = c.eight (omega (arith, k), omega (arith, k)) n (λ m. none_of (rw k at m) i)
  where
    none_of : MayEnd (shape 8) 10000 e → e ∈ (0 ∷ 312 ∷ 336 ∷ 340 ∷ 343 ∷ 345 ∷ 9999 ∷ 10001 ∷ 10004 ∷ 10008 ∷ []) → ⊥
    none_of m j = ⊎_elim (λ x. omega (arith, m, x)) (λ j. ⊎_elim (λ x. omega (arith, m, x)) (λ j. ⊎_elim (λ x. omega (arith, m, x)) (λ j. ⊎_elim (λ x. omega (arith, m, x)) (λ j. ⊎_elim (λ x. omega (arith, m, x))
        (λ j. ⊎_elim (λ x. omega (arith, m, x)) (λ j. ⊎_elim (λ x. omega (arith, m, x)) (λ j. ⊎_elim (λ x. omega (arith, m, x)) (λ j. ⊎_elim (λ x. omega (arith, m, x)) (λ j. ⊎_elim (λ x. omega (arith, m, x)) (λ j. absurd j) j) j) j) j) j) j) j) j) j) j

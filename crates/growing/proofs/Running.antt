-- An allocation in a buffer, and a move: on the heap's own bytes first, and where these find no room on those of the heap that has grown.
use Rattle.std.proofs.Common.{ok_or, is_err, true≢false, ℕ, ◌-◌, ◌≤◌, ◌<◌, ◌≡◌, refl, sym, ap, subst, ◌∙◌, List, ◌++◌, Option, Some, None, Result, Ok, Err, arith, length, take, drop, take-append-drop, length-take-le, take_at, drop_at}
use Rattle.std.proofs.lemmas.Option.{none-some, same_Some}
use Rattle.std.proofs.Math.Option.{Option as Given, none, some}
use Rattle.std.proofs.Math.Decide.{dec_le}
use Rattle.std.specs.Borrow.{MutBor}
use Rattle.std.specs.Fn.{Shared}
use Rattle.std.specs.Result.{result_ok}
use Rattle.model.specs.Shape.{shape, end_of}
use Rattle.model.specs.Layout.{Layout, end_in}
use Rattle.model.specs.Sound.{Here, stored_end, heap_of, HereIn}
use Rattle.model.specs.Rules.{Made, Found, block, thing, nothing, allocate, longer, growth, find}
use Rattle.model.specs.Live.{◌∈◌, Payload}
use Rattle.model.specs.Refusals.{not_live, no_room}
use Rattle.model.specs.Calls.{Outcome, refused, fronted, in_buffer, moving, drawn, made, growing, grown_to, allocated, moved_bytes, moved, resized_by}
use Rattle.model.specs.declared.Address.{Address}
use Rattle.model.specs.inner.Ways.{heap_resized}
use Rattle.model.proofs.Good.{shape_good}
use Rattle.model.proofs.pictures.Fronts.{refused_own, front_length}
use Rattle.model.proofs.lives.LiveFound.{is_there, there_is, live_is_there}
use Rattle.model.proofs.lives.FreeLives.{freed_removes}
use Rattle.model.proofs.rules.Growth.{Grows, found, full, grown, grows, longer_finds}
use Rattle.model.proofs.rules.Ready.{RunsOn, runs_own, runs_grown}
use Rattle.model.proofs.rules.ResizeWays.{no_some, heap_nowhere, heap_there, by_nowhere, by_there}
use Rattle.model.specs.declared.Position.{Position}
use Rattle.model.specs.declared.refusals.Refusal.{Refusal}
use Rattle.model.specs.declared.refusals.Refusal.TheVariants as refusal
use Rattle.engine.specs.Allocate.{Asked, Gives, GivesSize}
use Rattle.engine.specs.Ready.{Ready}
use Rattle.resizing.specs.Ways.{outcome_of, ByWay}
use Rattle.growing.specs.Growing.{Holding, Grown, Run, Runs, Fills, Ran, at_once, later, never, taken_as, Takes, Relocates}
use Rattle.growing.proofs.GrowLaws.{further}

-- what was answered of a heap's own bytes, in the buffer
reason : Result Address Refusal → Refusal
reason (Ok a) = refusal.NoRoom
reason (Err k) = k

taken_front : (t : Option Address) (c b : List ℕ) → taken_as t (fronted c b) ≡ in_buffer b (taken_as t c)
taken_front (Some a) c b = refl
taken_front None c b = refl

moved_front : (t : Result Address Refusal) (c b : List ℕ) → outcome_of t (fronted c b) ≡ in_buffer b (outcome_of t c)
moved_front (Ok a) c b = refl
moved_front (Err j) c b = refl

ok_of : (o : Option Address) → result_ok (ok_or o refusal.NoRoom) ≡ o
ok_of (Some a) = refl
ok_of None = refl

taken_heap : (t : Option Address) (c : List ℕ) → length (taken_as t c).heap ≡ length c
taken_heap (Some a) c = refl
taken_heap None c = refl

moved_heap : (t : Result Address Refusal) (c : List ℕ) → length (outcome_of t c).heap ≡ length c
moved_heap (Ok a) c = refl
moved_heap (Err k) c = refl

-- "no room" has a number of its own
other : (t : Result Address Refusal) (c : List ℕ) → (t ≡ Err refusal.NoRoom → ⊥) → (outcome_of t c).refusal ≡ no_room → ⊥
other (Ok a) c f e = omega (arith, e)
other (Err refusal.BadLength) c f e = omega (arith, e)
other (Err refusal.NotOpened) c f e = omega (arith, e)
other (Err refusal.NotSound) c f e = omega (arith, e)
other (Err refusal.BadSize) c f e = omega (arith, e)
other (Err refusal.NotLive) c f e = omega (arith, e)
other (Err refusal.NoRoom) c f e = f refl
other (Err refusal.AlreadyOpened) c f e = omega (arith, e)
other (Err refusal.BadEnd) c f e = omega (arith, e)

-- the engine gives what the rule says
gives_rule : (w : ℕ) (b : List ℕ) (n : ℕ) (t : Option Address) (c : List ℕ) → GivesSize w b n t c → (L : Layout) → Here (shape w) b L → taken_as t c ≡ allocated (shape w) b n L
gives_rule w b n t c g L h = go (allocate (shape w) n L) (g.is L h)
  where
    go : (o : Given Made) → Gives w b L o t c → taken_as t c ≡ made (shape w) b o (λ m. drawn (shape w) m.layout b)
    go none x = rw (x.answer, x.bytes) refl
    go (some m) x = rw (x.answer, x.bytes) refl

module _ (w : ℕ) (b : List ℕ) (n : ℕ) where
  -- n bytes find no room in the heap of the buffer
  abbrev pub Full : Type 0
  Full = (L : Layout) → HereIn (shape w) b L → allocate (shape w) n L ≡ none

  -- where a run stands: at the heap that was there, or at the one that has grown, where P holds
  pub data Stands (P : Type 0) : ℕ → List ℕ → Type 0 where
    begun : {end : ℕ} → end ≡ stored_end (shape w) b → Stands P end b
    grew : {p : Position} {c : List ℕ} → Grown w b n (Some p) c → Full → P → Stands P p.0 c

  -- it is full, and the buffer is as it was
  pub record Still (end : ℕ) (d : List ℕ) : Type 0 where
    pub same : d ≡ b
    pub ended : end ≡ stored_end (shape w) b
    pub full : Full

  -- what holds at each turn
  pub record Turn (P : Type 0) (end : ℕ) (c : List ℕ) : Type 0 where
    pub long : length c ≡ length b
    pub stands : Stands P end c

-- a run on the heap's own bytes found no room
abbrev pub Failed : ℕ → List ℕ → Run → Type 0
Failed w b run = (d : List ℕ) × run (heap_of (shape w) b) (Err refusal.NoRoom) d

-- what a call at the bytes was
pub ran_so : {F : Type 0} (g : Shared F (MutBor (List ℕ) × Unit {0}) (Result Address Refusal × (MutBor (List ℕ) × Unit {0}))) (f : F) {y z : MutBor (List ℕ)} {r : Result Address Refusal} → g.post f (y, tt) (r, (z, tt)) → Runs g f y.now r z.now
ran_so g f {y} {z} m = record { shown = y; shows = refl; left = z; met = m; leaves = refl }

module _ {w : ℕ} (b : List ℕ) (x : Holding w b) (n : ℕ) (asked : Asked w n) where
  from_start : (k : ℕ) → k - 0 ≡ k
  from_start k = omega arith

  part_ready : (end : ℕ) → end ≡ stored_end (shape w) b → Ready w (take (end - 0) b)
  part_ready end k =
      let r = runs_own x.width b x.sound.layout x.lent x.sound.here in
      subst (λ (y : ℕ). Ready w (take y b)) (sym (from_start end ∙ k)) (record { width = x.width; sound = record { layout = x.sound.layout; here = x.sound.here.here }; short = r.lent.1 })

  -- a rule that allocates n bytes
  module _ (bytes : List ℕ → Layout → Made → List ℕ) where
    abbrev rule : List ℕ → Layout → Outcome
    rule h M = made (shape w) h (allocate (shape w) n M) (bytes h M)

    -- where it finds room at once, the heap does not grow
    at_once_grows : (L : Layout) → ((rule (heap_of (shape w) b) L).refusal ≡ no_room → ⊥) → growing (shape w) n b rule L ≡ in_buffer b (rule (heap_of (shape w) b) L)
    at_once_grows L f = go (growth (shape w) (end_of (length b)) n L) (grows (shape w) (end_of (length b)) n L)
      where
        none_is : allocate (shape w) n L ≡ none → ⊥
        none_is e = f (ap (λ (o : Given Made). (made (shape w) (heap_of (shape w) b) o (bytes (heap_of (shape w) b) L)).refusal) e)

        go : (g : Given Layout) → Grows (shape w) (end_of (length b)) n L g → grown_to (shape w) b rule L g ≡ in_buffer b (rule (heap_of (shape w) b) L)
        go g (found m e) = refl
        go g (full e l) = refl
        go g (grown e l) = absurd (none_is e)

    -- what the rule made, where it did not say "no room"
    found_none : (d : List ℕ) (L : Layout) → (rule d L).refusal ≡ no_room → allocate (shape w) n L ≡ none
    found_none d L e = go (allocate (shape w) n L) refl
      where
        go : (o : Given Made) → allocate (shape w) n L ≡ o → allocate (shape w) n L ≡ none
        go none k = k
        go (some m) k = absurd (omega (arith, e, ap (λ (o : Given Made). (made (shape w) d o (bytes d L)).refusal) k))

    none_heap : (d : List ℕ) (L : Layout) → (rule d L).refusal ≡ no_room → (rule d L).heap ≡ d
    none_heap d L e = ap (λ (o : Given Made). (made (shape w) d o (bytes d L)).heap) (found_none d L e)

    -- where the heap could not grow
    not_grown : (c : List ℕ) → Grown w b n None c → (L : Layout) → HereIn (shape w) b L → allocate (shape w) n L ≡ none → refused c no_room ≡ growing (shape w) n b rule L
    not_grown c g L h e = go (growth (shape w) (end_of (length b)) n L) (grows (shape w) (end_of (length b)) n L)
      where
        go : (o : Given Layout) → Grows (shape w) (end_of (length b)) n L o → refused c no_room ≡ grown_to (shape w) b rule L o
        go o (found m k) = absurd (let z : ◌≡◌ {A = ℕ} 0 1 = no_some (sym e ∙ k) in omega (arith, z))
        go o (full k l) = rw k (ap (λ (y : List ℕ). refused y no_room) (g.stays L h e l).1 ∙ sym (refused_own (shape w) b no_room))
        go o (grown k l) = absurd (none-some _ (g.grows L h e l).0)

  -- where it has grown
  module _ (p : Position) (c : List ℕ) (g : Grown w b n (Some p) c) (L : Layout) (h : HereIn (shape w) b L) (e : allocate (shape w) n L ≡ none) where
    abbrev end : ℕ
    end = p.0

    abbrev G : Layout
    G = longer (shape w) n L

    room : end_in (shape w) G ≤ end_of (length b)
    room = go (dec_le (end_in (shape w) G) (end_of (length b)))
      where
        go : Dec (end_in (shape w) G ≤ end_of (length b)) → end_in (shape w) G ≤ end_of (length b)
        go (yes l) = l
        go (no l) = absurd (none-some p (sym (g.stays L h e (omega (arith, l))).0))

    end_is : end ≡ end_in (shape w) G
    end_is = ap (λ (q : Position). q.0) (same_Some p (record { 0 = end_in (shape w) G }) (g.grows L h e room).0)

    abbrev own : List ℕ
    own = drawn (shape w) G (take (end_in (shape w) G) b)

    on : RunsOn x.width b L own G
    on = runs_grown x.width b L x.lent h n asked.some_byte e room

    long : length own ≡ end
    long = omega (arith, end_is, on.here.valid.fills, on.eight)

    bytes_are : c ≡ fronted own b
    bytes_are = (g.grows L h e room).1

    part_is : take (end - 0) c ≡ own
    part_is = ap (λ (d : List ℕ). take (end - 0) d) bytes_are ∙ take_at own (drop (length own) b) (end - 0) (omega (arith, long))

    behind_is : drop end c ≡ drop end b
    behind_is = ap (λ (d : List ℕ). drop end d) bytes_are ∙ drop_at own (drop (length own) b) end long ∙ ap (λ (y : ℕ). drop y b) long

    grown_ready : Ready w (take (end - 0) c)
    grown_ready = subst (λ (d : List ℕ). Ready w d) (sym part_is) (record { width = x.width; sound = record { layout = G; here = on.here }; short = on.lent.1 })

    grown_here : Here (shape w) (take (end - 0) c) G
    grown_here = subst (λ (d : List ℕ). Here (shape w) d G) (sym part_is) on.here

    grown_within : end ≤ length c
    grown_within = let l = front_length own b (omega (arith, on.may.1)) in omega (arith, ap length bytes_are, l, long, on.may.1)

    -- a rule that allocates n bytes then runs there
    ran : (bytes : List ℕ → Layout → Made → List ℕ) (o : Outcome) → o ≡ made (shape w) (take (end - 0) c) (allocate (shape w) n G) (bytes (take (end - 0) c) G) → length o.heap ≡ end
        → in_buffer c o ≡ growing (shape w) n b (λ d M. made (shape w) d (allocate (shape w) n M) (bytes d M)) L
    ran bytes o k m = go (growth (shape w) (end_of (length b)) n L) (grows (shape w) (end_of (length b)) n L)
      where
        here : o ≡ made (shape w) own (allocate (shape w) n G) (bytes own G)
        here = k ∙ ap (λ (d : List ℕ). made (shape w) d (allocate (shape w) n G) (bytes d G)) part_is

        same : in_buffer c o ≡ in_buffer b o
        same = ap (λ (d : List ℕ). record { refusal = o.refusal; address = o.address; heap = o.heap ++ d }) (ap (λ (y : ℕ). drop y c) m ∙ behind_is ∙ ap (λ (y : ℕ). drop y b) (sym m))

        go : (z : Given Layout) → Grows (shape w) (end_of (length b)) n L z → in_buffer c o ≡ grown_to (shape w) b (λ d M. made (shape w) d (allocate (shape w) n M) (bytes d M)) L z
        go z (found y f) = absurd (let v : ◌≡◌ {A = ℕ} 0 1 = no_some (sym e ∙ f) in omega (arith, v))
        go z (full f l) = absurd (omega (arith, l, room))
        go z (grown f l) = same ∙ ap (λ (y : Outcome). in_buffer b y) here

  -- for the heap that is there
  module _ (p : Position) (c : List ℕ) (g : Grown w b n (Some p) c) (none_found : Full w b n) where
    abbrev K : Layout
    K = x.sound.layout

    then_ready : Ready w (take (p.0 - 0) c)
    then_ready = grown_ready p c g K x.sound.here (none_found K x.sound.here)

    then_within : p.0 ≤ length c
    then_within = grown_within p c g K x.sound.here (none_found K x.sound.here)

    -- it ends behind where it did, and within the buffer
    pub then_further : (stored_end (shape w) b < p.0) × (p.0 ≤ length c)
    then_further = (omega (arith, end_is p c g K x.sound.here (none_found K x.sound.here), further b x n asked K x.sound.here (none_found K x.sound.here)), then_within)

    -- there the n bytes find room
    finds_room : allocate (shape w) n (longer (shape w) n K) ≡ none → ⊥
    finds_room = longer_finds x.width n asked.some_byte (end_of (length (heap_of (shape w) b))) K x.sound.here.here.valid

  pub stands_ready : {P : Type 0} {end : ℕ} {c : List ℕ} → Stands w b n P end c → Ready w (take (end - 0) c)
  stands_ready (begun k) = part_ready _ k
  stands_ready (grew g shut p) = then_ready _ _ g shut

  pub stands_within : {P : Type 0} {end : ℕ} {c : List ℕ} → Stands w b n P end c → end ≤ length c
  stands_within (begun k) = omega (arith, k, x.sound.here.ended.1)
  stands_within (grew g shut p) = then_within _ _ g shut

  part_own : (end : ℕ) → end ≡ stored_end (shape w) b → take (end - 0) b ≡ heap_of (shape w) b
  part_own end k = ap (λ (y : ℕ). take y b) (from_start end ∙ k)

  -- what grows is the heap that was there
  pub grown_same : {end : ℕ} {d e : List ℕ} {to : Option Position} → Still w b n end d → Grown w d n to e → Grown w b n to e
  grown_same {e} {to} s g = subst (λ (y : List ℕ). Grown w y n to e) s.same g

  -- and it has grown then: the next turn stands there, nearer to the buffer's end
  pub next_turn : {P : Type 0} {end : ℕ} {h d e : List ℕ} {p : Position} → Turn w b n P end h → Still w b n end d → Grown w d n (Some p) e → length e ≡ length d → P → Turn w b n P p.0 e × (length e - p.0 < length h - end)
  next_turn t s g l q =
      let f = then_further _ _ (grown_same s g) s.full in
      (record { long = l ∙ ap length s.same; stands = grew (grown_same s g) s.full q }, omega (arith, l, ap length s.same, s.ended, t.long, f))

  -- THE LAWS of a run, wherever it stands
  module _ (run : Run) (fills : Fills w n run) where
    -- only the heap that was there has no room; then the buffer is as it was
    pub ran_still : {end : ℕ} {h : List ℕ} → Stands w b n (Failed w b run) end h → {t : Result Address Refusal} (c : List ℕ) → t ≡ Err refusal.NoRoom → run (take (end - 0) h) t c → Still w b n end (c ++ drop (end - 0) h) × Failed w b run
    ran_still {end} (begun k) c e q =
        let r : run (take (end - 0) b) (Err refusal.NoRoom) c = subst (λ (t : Result Address Refusal). run (take (end - 0) b) t c) e q in (
          record {
            same = ap (λ (d : List ℕ). d ++ drop (end - 0) b) (fills.same (part_ready end k) r) ∙ take-append-drop (end - 0) b;
            ended = k;
            full = λ L h. fills.full (part_ready end k) r L (subst (λ (d : List ℕ). Here (shape w) d L) (sym (part_own end k)) h.here);
          },
          (c, subst (λ (d : List ℕ). run d (Err refusal.NoRoom) c) (part_own end k) r),
        )
    ran_still (grew {p} {c = d} g shut z) c e q =
        let K = x.sound.layout in
        let r : run (take (p.0 - 0) d) (Err refusal.NoRoom) c = subst (λ (t : Result Address Refusal). run (take (p.0 - 0) d) t c) e q in
        absurd (finds_room p d g shut (fills.full (then_ready p d g shut) r (longer (shape w) n K) (grown_here p d g K x.sound.here (shut K x.sound.here))))

    ran_at : {end : ℕ} {h : List ℕ} → Stands w b n (Failed w b run) end h → (t : Result Address Refusal) (c : List ℕ) → run (take (end - 0) h) t c → (t ≡ Err refusal.NoRoom → ⊥) → length c ≡ length (take (end - 0) h)
        → Ran w b n run t (c ++ drop (end - 0) h)
    ran_at {end} (begun k) t c r f l =
        let m : length c ≡ end - 0 = l ∙ length-take-le (end - 0) b (omega (arith, k, x.sound.here.ended.1)) in
        at_once (subst (λ (d : List ℕ). run d t c) (part_own end k) r) f (m ∙ from_start end ∙ k) (ap (λ (y : ℕ). c ++ drop y b) (sym m))
    ran_at (grew {p} {c = d} g shut z) t c r f l =
        let m : length c ≡ p.0 - 0 = l ∙ length-take-le (p.0 - 0) d (omega (arith, then_within p d g shut)) in
        later z.1 g (subst (λ (y : ℕ). run (take y d) t c) (from_start p.0) r) (m ∙ from_start p.0) (ap (λ (y : ℕ). c ++ drop y d) (sym m))

    pub ran_ok : {end : ℕ} {h : List ℕ} → Stands w b n (Failed w b run) end h → (a : Address) {t : Result Address Refusal} (c : List ℕ) → t ≡ Ok a → run (take (end - 0) h) t c → length c ≡ length (take (end - 0) h) → Ran w b n run (Ok a) (c ++ drop (end - 0) h)
    ran_ok {end} {h} s a c e r l = ran_at s (Ok a) c (subst (λ (t : Result Address Refusal). run (take (end - 0) h) t c) e r) (λ z. true≢false (sym (ap is_err z))) l

    pub ran_err : {end : ℕ} {h : List ℕ} → Stands w b n (Failed w b run) end h → (k : Refusal) → (k ≡ refusal.NoRoom → ⊥) → {t : Result Address Refusal} (c : List ℕ) → t ≡ Err k → run (take (end - 0) h) t c → length c ≡ length (take (end - 0) h) → Ran w b n run (Err k) (c ++ drop (end - 0) h)
    unfolding reason
    ran_err {end} {h} s k f c e r l = ran_at s (Err k) c (subst (λ (t : Result Address Refusal). run (take (end - 0) h) t c) e r) (λ z. f (ap reason z)) l

    pub ran_full : Failed w b run → (d : List ℕ) → Grown w b n None d → Ran w b n run (Err refusal.NoRoom) d
    ran_full z d g = never z.1 g refl

    own_full : {d : List ℕ} → run (heap_of (shape w) b) (Err refusal.NoRoom) d → Full w b n
    own_full r L h = fills.full (subst (λ (d : List ℕ). Ready w d) (part_own (stored_end (shape w) b) refl) (part_ready (stored_end (shape w) b) refl)) r L h.here

  -- ALLOCATE: the engine says "no room" only where that is so
  pub takes_fill : (d c : List ℕ) → Ready w d → GivesSize w d n None c → (c ≡ d) × ((L : Layout) → Here (shape w) d L → allocate (shape w) n L ≡ none)
  takes_fill d c q a =
      let h = q.sound.here in
      let L = q.sound.layout in
      (ap (λ (o : Outcome). o.heap) (gives_rule w d n None c a L h) ∙ none_heap (λ e M m. drawn (shape w) m.layout e) d L (says L h), λ M i. found_none (λ e N m. drawn (shape w) m.layout e) d M (says M i))
    where
      says : (L : Layout) → Here (shape w) d L → (allocated (shape w) d n L).refusal ≡ no_room
      says L h = sym (ap (λ (o : Outcome). o.refusal) (gives_rule w d n None c a L h))

  module _ (run : Run) (gives : (d c : List ℕ) (r : Result Address Refusal) → run d r c → (o : Option Address) × GivesSize w d n o c × (r ≡ ok_or o refusal.NoRoom)) where
    pub takes_fills : Fills w n run
    takes_fills = record { same = λ {b = d} {c} q r. (no_room_left d c q r).0; full = λ {b = d} {c} q r. (no_room_left d c q r).1 }
      where
        go : (d c : List ℕ) → Ready w d → (o : Option Address) × GivesSize w d n o c × (Err refusal.NoRoom ≡ ok_or o refusal.NoRoom) → (c ≡ d) × ((L : Layout) → Here (shape w) d L → allocate (shape w) n L ≡ none)
        go d c q (None, a, e) = takes_fill d c q a
        go d c q (Some v, a, e) = absurd (true≢false (ap is_err e))

        no_room_left : (d c : List ℕ) → Ready w d → run d (Err refusal.NoRoom) c → (c ≡ d) × ((L : Layout) → Here (shape w) d L → allocate (shape w) n L ≡ none)
        no_room_left d c q r = go d c q (gives d c (Err refusal.NoRoom) r)

    pub takes_ran : {t : Result Address Refusal} {c : List ℕ} → Ran w b n run t c → Takes w b n (result_ok t) c
    takes_ran {t} {c} (at_once {d} r f l e) = go (gives _ d t r)
      where
        go : (o : Option Address) × GivesSize w (heap_of (shape w) b) n o d × (t ≡ ok_or o refusal.NoRoom) → Takes w b n (result_ok t) c
        go (None, a, q) = absurd (f q)
        go (Some v, a, q) = record {
          is = λ L h.
              let o = gives_rule w (heap_of (shape w) b) n (Some v) d a L h.here in
              rw (q, e) (ap (λ (y : Outcome). in_buffer b y) o ∙ sym (at_once_grows (λ y M m. drawn (shape w) m.layout y) L (λ z. omega (arith, ap (λ (y : Outcome). y.refusal) o, z))));
        }
    takes_ran {t} {c} (later {d} {e = k} {q} {p} r g s l e) = go (gives _ q t s)
      where
        shut : Full w b n
        shut = own_full run takes_fills r

        go : (o : Option Address) × GivesSize w (take p.0 k) n o q × (t ≡ ok_or o refusal.NoRoom) → Takes w b n (result_ok t) c
        go (o, a, y) =
            let ours : GivesSize w (take (p.0 - 0) k) n o q = subst (λ (z : ℕ). GivesSize w (take z k) n o q) (sym (from_start p.0)) a in
            record {
              is = λ L h.
                  rw (y, e) (ap (λ (z : Option Address). taken_as z (fronted q k)) (ok_of o)
                  ∙ taken_front o q k
                  ∙ ran p k g L h (shut L h) (λ z M v. drawn (shape w) v.layout z) (taken_as o q) (gives_rule w (take (p.0 - 0) k) n o q ours (longer (shape w) n L) (grown_here p k g L h (shut L h))) (taken_heap o q ∙ l));
            }
    takes_ran {c} (never r g e) = record { is = λ L h. rw e (not_grown (λ y M m. drawn (shape w) m.layout y) c g L h (own_full run takes_fills r L h)) }

  -- MOVE: the same, where something is live
  module _ (run : Run) (a : ℕ) (goes : (d c : List ℕ) (r : Result Address Refusal) → run d r c → ByWay w moving d a n r c) where
    by_move : {d c : List ℕ} {r : Result Address Refusal} → run d r c → ((outcome_of r c).refusal ≡ not_live → ⊥) → (L : Layout) → Here (shape w) d L → (outcome_of r c ≡ moved (shape w) d a n L) × (is_there (find (shape w) a L) ≡ 1)
    by_move {d} {c} {r} y f L h =
        let o = (goes d c r y).is L h in
        let there = there_is (find (shape w) a L) (λ e. f (ap (λ (v : Outcome). v.refusal) (o ∙ heap_nowhere (shape w) d a n L moving e))) in
        (o ∙ heap_there (shape w) d a n L moving there, there)

    -- what is not refused with 5 is of something live
    not_five : (c : List ℕ) → (outcome_of (Err refusal.NoRoom) c).refusal ≡ not_live → ⊥
    not_five c z = omega (arith, z)

    pub moves_fills : Fills w n run
    moves_fills = record {
      same = λ {b = d} {c} q r.
          let o = by_move r (not_five c) q.sound.layout q.sound.here in
          ap (λ (v : Outcome). v.heap) o.0 ∙ none_heap (λ y. moved_bytes (shape w) y a n) d q.sound.layout (sym (ap (λ (v : Outcome). v.refusal) o.0));
      full = λ {b = d} {c} q r M h. found_none (λ y. moved_bytes (shape w) y a n) d M (sym (ap (λ (v : Outcome). v.refusal) (by_move r (not_five c) M h).0));
    }

    shut : {d : List ℕ} → run (heap_of (shape w) b) (Err refusal.NoRoom) d → Full w b n
    shut r = own_full run moves_fills r

    alive : {d : List ℕ} → run (heap_of (shape w) b) (Err refusal.NoRoom) d → (L : Layout) → HereIn (shape w) b L → is_there (find (shape w) a L) ≡ 1
    alive {d} r L h = (by_move r (not_five d) L h.here).1

    -- in the heap that has grown it is, too
    still_there : (L : Layout) → HereIn (shape w) b L → is_there (find (shape w) a L) ≡ 1 → (M : Layout) {d : List ℕ} → RunsOn x.width b L d M → is_there (find (shape w) a M) ≡ 1
    still_there L h i M on =
        let s = freed_removes (shape w) (shape_good x.width) h.here.valid a (find (shape w) a L) refl (λ e. omega (arith, i, ap is_there e)) in
        live_is_there (shape w) (shape_good x.width) on.here.valid a s.payload (subst (λ (l : List Payload). s.payload ∈ l) (sym on.lives) s.adds.there) s.at

    -- where nothing is live at a
    nowhere : (L : Layout) → find (shape w) a L ≡ nothing → in_buffer b (heap_resized (shape w) moving (heap_of (shape w) b) a n L) ≡ resized_by (shape w) moving b a n L
    nowhere L e = ap (λ (v : Outcome). in_buffer b v) (heap_nowhere (shape w) (heap_of (shape w) b) a n L moving e) ∙ refused_own (shape w) b not_live ∙ sym (by_nowhere (shape w) b a n L moving e)

    pub moves_ran : {t : Result Address Refusal} {c : List ℕ} → Ran w b n run t c → Relocates w b a n t c
    moves_ran {t} {c} (at_once {d} r f l e) = record { is = λ L h. rw e (moved_front t d b ∙ go L h (find (shape w) a L) refl) }
      where
        there : (L : Layout) → HereIn (shape w) b L → is_there (find (shape w) a L) ≡ 1 → in_buffer b (outcome_of t d) ≡ resized_by (shape w) moving b a n L
        there L h i =
            let o : outcome_of t d ≡ moved (shape w) (heap_of (shape w) b) a n L = (goes _ d t r).is L h.here ∙ heap_there (shape w) (heap_of (shape w) b) a n L moving i in
            ap (λ (v : Outcome). in_buffer b v) o
            ∙ sym (at_once_grows (λ y. moved_bytes (shape w) y a n) L (λ z. other t d f (ap (λ (v : Outcome). v.refusal) o ∙ z)))
            ∙ sym (by_there (shape w) b a n L moving i)

        go : (L : Layout) → HereIn (shape w) b L → (v : Found) → find (shape w) a L ≡ v → in_buffer b (outcome_of t d) ≡ resized_by (shape w) moving b a n L
        go L h nothing q = ap (λ (v : Outcome). in_buffer b v) ((goes _ d t r).is L h.here) ∙ nowhere L q
        go L h (block k) q = there L h (ap is_there q)
        go L h (thing i j v) q = there L h (ap is_there q)
    moves_ran {t} {c} (later {d} {e = k} {q} {p} r g s l e) = record {
      is = λ L h.
          let y : ByWay w moving (take (p.0 - 0) k) a n t q = subst (λ (z : ℕ). ByWay w moving (take z k) a n t q) (sym (from_start p.0)) (goes _ q t s) in
          let o : outcome_of t q ≡ moved (shape w) (take (p.0 - 0) k) a n (longer (shape w) n L) =
          y.is (longer (shape w) n L) (grown_here p k g L h (shut r L h))
          ∙ heap_there (shape w) (take (p.0 - 0) k) a n (longer (shape w) n L) moving (still_there L h (alive r L h) (longer (shape w) n L) (on p k g L h (shut r L h))) in
          rw e (moved_front t q k ∙ ran p k g L h (shut r L h) (λ z. moved_bytes (shape w) z a n) (outcome_of t q) o (moved_heap t q ∙ l) ∙ sym (by_there (shape w) b a n L moving (alive r L h)));
    }
    moves_ran {c} (never r g e) = record { is = λ L h. rw e (not_grown (λ y. moved_bytes (shape w) y a n) c g L h (shut r L h) ∙ sym (by_there (shape w) b a n L moving (alive r L h))) }

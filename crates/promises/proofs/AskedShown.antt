-- An item that is granted for n bytes shows n bytes.
use Rattle.std.proofs.Common.{ℕ, ◌≤◌, ◌≡◌, refl, sym, ap, subst, ◌∙◌, List, ◌⊎◌, inl, inr, ⊎_elim, arith, length}
use Rattle.std.proofs.Math.Option.{Option, none, some}
use Rattle.words.specs.Width.{Width}
use Rattle.model.specs.Shape.{shape, largest_item, end_of}
use Rattle.model.specs.Layout.{Layout}
use Rattle.model.specs.Sound.{heap_of, HereIn}
use Rattle.model.specs.Rules.{Made, allocate, find, stays}
use Rattle.model.specs.Live.{◌∈◌, Payload, live}
use Rattle.model.specs.Calls.{staying, moving, Outcome, granted, Lent, in_buffer, drawn, without, placed, moved_bytes, resized, resized_by}
use Rattle.model.specs.Promises.{allocating, resizing_by, Comes, IsItem, ShownAt, GrantShows, AskedShown}
use Rattle.model.proofs.Good.{shape_good}
use Rattle.model.proofs.rules.Allocation.{allocate_grants}
use Rattle.model.proofs.lives.StayLives.{stays_stayed}
use Rattle.model.proofs.lives.LiveFound.{is_there}
use Rattle.model.proofs.rules.OnLayouts.{Done}
use Rattle.model.proofs.rules.ResizeWays.{Went, nowhere, in_place, elsewhere, as_it_is, no_way, went, went_by, by_there}
use Rattle.sound.proofs.OneLayout.{one_layout}
use Rattle.promises.proofs.Cases.{granted_size}
use Rattle.model.proofs.rules.Ready.{Runs, none_fits, ran_on, runs, RunsOn, runs_own, ready_runs}
use Rattle.promises.proofs.Heaps.{drew}
use Rattle.promises.proofs.Answers.{finds, lifted}
use Rattle.promises.proofs.Doing.{there_too}
use Rattle.promises.proofs.AllocateKept.{made_of}
use Rattle.promises.proofs.Moved.{moved_does, moved_shown}
use Rattle.promises.proofs.Places.{was_there}

module _ {w : ℕ} (wd : Width w) (n : ℕ) where
  -- an outcome leaves a heap in which a payload at its address shows n bytes, where it is an item
  record Shown (Item : Type 0) (r : Outcome) : Type 0 where
    layout : Layout
    here : HereIn (shape w) r.heap layout
    payload : Payload
    there : payload ∈ live (shape w) layout
    at : payload.address ≡ r.address
    shown : Item → payload.shown ≡ n

  -- a new item, where n has a class that is handed out; one that stays at a, of any class
  abbrev New : Type 0
  New = n ≤ largest_item (shape w)

  abbrev Staying : ℕ → Layout → Type 0
  Staying a L = New ⊎ IsItem (find (shape w) a L)

  -- whatever layout the heap is said to have
  shown_at : {Item : Type 0} {r o : Outcome} → r ≡ o → Shown Item o → (N : Layout) → HereIn (shape w) r.heap N → Item → ShownAt (shape w) N r.address n
  shown_at {Item} {r} {o} e s N h l =
      let k : HereIn (shape w) o.heap N = subst (λ (y : Outcome). HereIn (shape w) y.heap N) e h in
      (s.payload, subst (λ (M : Layout). s.payload ∈ live (shape w) M) (one_layout wd o.heap s.layout N s.here k) s.there, s.at ∙ sym (ap (λ (y : Outcome). y.address) e), s.shown l)

  module _ (b : List ℕ) (L : Layout) (l : Lent (shape w) b) (h : HereIn (shape w) b L) (one : 1 ≤ n) where
    -- what was made where an allocation ran
    allocated_shown : {c : List ℕ} {M : Layout} → RunsOn wd b L c M → (m : Made) → allocate (shape w) n M ≡ some m → Shown New (in_buffer b (granted m.at (drawn (shape w) m.layout c)))
    allocated_shown {c} {M} on m e =
        let k = allocate_grants (shape w) (end_of (length c)) n (shape_good wd) one M m on.here.valid e in
        record { layout = m.layout; here = (lifted wd b L l h on _ _ (drew wd c M on.lent on.here m.at m.layout k.valid)).here; payload = k.payload; there = k.adds.there; at = k.at; shown = k.shown }

    module _ (a : ℕ) where
      stayed_shown : (M : Layout) → stays (shape w) n (find (shape w) a L) L ≡ some M → Shown (Staying a L) (in_buffer b (granted a (drawn (shape w) M (heap_of (shape w) b))))
      stayed_shown M e =
          let on = runs_own wd b L l h in
          let k = stays_stayed (shape w) (shape_good wd) n a one h.here.valid M e in
          record { layout = M; here = (lifted wd b L l h on _ _ (drew wd (heap_of (shape w) b) L on.lent on.here a M k.valid)).here; payload = k.payload; there = k.there; at = k.at; shown = k.shown }

      elsewhere_shown : is_there (find (shape w) a L) ≡ 1 → {c : List ℕ} {M : Layout} → RunsOn wd b L c M → (m : Made) → allocate (shape w) n M ≡ some m → Shown New (in_buffer b (granted m.at (moved_bytes (shape w) c a n M m)))
      elsewhere_shown i {c} {M} on m e =
          let j = there_too wd b L h on a i in
          let k = moved_shown wd c M on.lent on.here a n one m e j in
          record { layout = _; here = (lifted wd b L l h on _ _ (moved_does wd c M on.lent on.here a n one m e j)).here; payload = k.0; there = k.1; at = k.2; shown = k.3 }

      -- wherever a granted resize led
      went_shown : {o : Outcome} {d : Done} → Went (shape w) b a n L o d → o.refusal ≡ 0 → Shown New o ⊎ (o ≡ granted a b)
      went_shown (nowhere e) g = absurd (omega (arith, g))
      went_shown (in_place i M s) g =
          let k = stayed_shown M s in
          inl (record { layout = k.layout; here = k.here; payload = k.payload; there = k.there; at = k.at; shown = λ l. k.shown (inl l) })
      went_shown (elsewhere i c G r m k) g = inl (elsewhere_shown i (ready_runs wd b L l h n one r) m k)
      went_shown (as_it_is i c) g = inr refl
      went_shown (no_way i) g = absurd (omega (arith, g))

      -- in place, and by a move
      placed_shown : (o : Option Layout) → stays (shape w) n (find (shape w) a L) L ≡ o → (placed (shape w) (heap_of (shape w) b) a o).refusal ≡ 0 → Shown (Staying a L) (in_buffer b (placed (shape w) (heap_of (shape w) b) a o))
      placed_shown none e g = absurd (omega (arith, g))
      placed_shown (some M) e g = stayed_shown M e

      ran_shown : is_there (find (shape w) a L) ≡ 1 → {o : Outcome} {d : Done} → Runs (shape w) b n L (λ c. moved_bytes (shape w) c a n) (λ m. without (shape w) a m.layout) o d → o.refusal ≡ 0 → Shown New o
      ran_shown i (none_fits e k) g = absurd (omega (arith, g))
      ran_shown i (ran_on c M r m k) g = elsewhere_shown i (ready_runs wd b L l h n one r) m k

  allocate_shows : GrantShows (shape w) (allocating n) n
  unfolding Comes
  allocate_shows b r L M g f =
      let a = made_of wd b n L r g.lent g.here (g.comes.sound g.lent L g.here) g.granted in
      shown_at a.is (allocated_shown b L g.lent g.here a.some_byte a.on a.made a.found) M g.then (⊎_elim (λ l. l) (λ x. absurd (let k = x.1 in let z : ◌≡◌ {A = ℕ} 0 1 = cc in omega (arith, z))) f)

  module _ (a : ℕ) where
    stay_shows : GrantShows (shape w) (resizing_by staying a n) n
    unfolding Comes
    stay_shows b r L M g f =
        let s = granted_size (shape w) b n (resized_by (shape w) staying b a n L) r (g.comes.sound g.lent L g.here) g.granted in
        let i = was_there (shape w) b a n L (went_by (shape w) b a n L (finds wd b L g.here n s.0) staying) (sym (ap (λ (o : Outcome). o.refusal) s.1) ∙ g.granted) in
        let e = s.1 ∙ by_there (shape w) b a n L staying i in
        shown_at e (placed_shown b L g.lent g.here s.0 a (stays (shape w) n (find (shape w) a L) L) refl (sym (ap (λ (o : Outcome). o.refusal) e) ∙ g.granted)) M g.then
        (⊎_elim (λ l. inl l) (λ x. inr (subst (λ (y : ℕ). IsItem (find (shape w) y L)) (let k = x.1 in cc) x.2)) f)

    move_shows : GrantShows (shape w) (resizing_by moving a n) n
    unfolding Comes
    move_shows b r L M g f =
        let s = granted_size (shape w) b n (resized_by (shape w) moving b a n L) r (g.comes.sound g.lent L g.here) g.granted in
        let i = was_there (shape w) b a n L (went_by (shape w) b a n L (finds wd b L g.here n s.0) moving) (sym (ap (λ (o : Outcome). o.refusal) s.1) ∙ g.granted) in
        let e = s.1 ∙ by_there (shape w) b a n L moving i in
        shown_at e (ran_shown b L g.lent g.here s.0 a i (runs (shape w) b n L (finds wd b L g.here n s.0) (λ c. moved_bytes (shape w) c a n) (λ m. without (shape w) a m.layout)) (sym (ap (λ (o : Outcome). o.refusal) e) ∙ g.granted)) M g.then
        (⊎_elim (λ l. l) (λ x. absurd (let k = x.1 in let z : ◌≡◌ {A = ℕ} 0 1 = cc in omega (arith, z))) f)

pub asked_shown : {w : ℕ} → Width w → AskedShown (shape w)
unfolding Comes
asked_shown {w} wd a n = (
  allocate_shows wd n,
  stay_shows wd n a,
  move_shows wd n a,
  (λ b r L M g l.
      let s = granted_size (shape w) b n (resized (shape w) b a n L) r (g.comes.sound g.lent L g.here) g.granted in
      ⊎_elim (λ k. inl (shown_at wd n s.1 k M g.then l)) (λ k. inr (s.1 ∙ k))
      (went_shown wd n b L g.lent g.here s.0 a (went (shape w) b a n L (finds wd b L g.here n s.0)) (sym (ap (λ (o : Outcome). o.refusal) s.1) ∙ g.granted))),
)

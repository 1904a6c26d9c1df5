-- Resize: where its ways lead. Proofs about a resize take these cases, and do not open the rule.
use Rattle.std.proofs.Common.{ℕ, ◌≤◌, ◌<◌, ◌≡◌, refl, sym, ap, subst, ◌∙◌, Bool, true, false, cond, ◌&&◌, List, arith, leb, length, eq-eqb, ne_eqb, le-leb}
use Rattle.std.proofs.Math.Logic.{◌↔◌}
use Rattle.std.proofs.Math.Option.{Option, none, some}
use Rattle.std.proofs.Math.Decide.{ℕ_discrete, dec_le}
use Rattle.std.proofs.lemmas.Bool.{lt-leb}
use Rattle.model.specs.Shape.{Shape, shape, end_of}
use Rattle.model.specs.Layout.{Layout, end_in}
use Rattle.model.specs.Rules.{Made, Found, block, thing, nothing, allocate, longer, find, capacity, stays}
use Rattle.model.specs.Sound.{heap_of, HereIn}
use Rattle.model.specs.Refusals.{bad_size, not_live, no_room}
use Rattle.model.specs.Calls.{Way, staying, moving, keeping, Outcome, refused, granted, in_buffer, or_next, GoodSize, drawn, growing, sized, found, made, without, placed, moved_bytes, kept, resized, one_way, resized_by, Moves, Keeps}
use Rattle.model.specs.Promises.{SplitGives}
use Rattle.words.specs.Width.{Width}
use Rattle.model.specs.inner.Ways.{heap_way, heap_resized}
use Rattle.model.proofs.pictures.Fronts.{refused_own}
use Rattle.model.proofs.lives.LiveFound.{is_there}
use Rattle.model.proofs.rules.Sized.{good, bad, good_or_bad}
use Rattle.model.proofs.rules.Growth.{longer_finds}
use Rattle.model.proofs.rules.Ready.{Ready, own, grew, Runs, none_fits, ran_on, runs}
use Rattle.model.proofs.rules.OnLayouts.{Done, refuse, grant, or_next_on, one_way_on, resized_by_on, resized_on}

-- what comes next counts only where the first says "no room"
next_same : (r o s p : Outcome) → r ≡ o → (r.refusal ≡ no_room → s ≡ p) → or_next r s ≡ or_next o p
next_same r o s p e f = go (ℕ_discrete r.refusal no_room)
  where
    go : Dec (r.refusal ≡ no_room) → or_next r s ≡ or_next o p
    go (yes k) = rw (sym e, eq-eqb r.refusal no_room k) (f k)
    go (no k) = rw (sym e, ne_eqb r.refusal no_room k) refl

next_six : (r s : Outcome) → ((or_next r s).refusal ≡ no_room) ↔ ((r.refusal ≡ no_room) × (s.refusal ≡ no_room))
next_six r s = go (ℕ_discrete r.refusal no_room)
  where
    go : Dec (r.refusal ≡ no_room) → ((or_next r s).refusal ≡ no_room) ↔ ((r.refusal ≡ no_room) × (s.refusal ≡ no_room))
    go (yes k) = rw (eq-eqb r.refusal no_room k) ((λ e. (k, e)), (λ e. e.1))
    go (no k) = rw (ne_eqb r.refusal no_room k) ((λ e. absurd (k e)), (λ e. absurd (k e.0)))

-- the next counts where the first says "no room"
next_of_lem : (r s : Outcome) → r.refusal ≡ no_room → or_next r s ≡ s
next_of_lem r s e = rw (eq-eqb r.refusal no_room e) refl

-- what is made is not nothing
pub no_some : {m : Made} → ◌≡◌ {A = Option Made} none (some m) → ◌≡◌ {A = ℕ} 0 1
no_some e = ap (λ (o : Option Made). is_some o) e
  where
    is_some : Option Made → ℕ
    is_some none = 0
    is_some (some m) = 1

module _ (S : Shape) (b : List ℕ) (a n : ℕ) (L : Layout) where
  -- where a resize of any form led, with the fact that opened it, and with the outcome on bytes and on layouts
  pub data Went : Outcome → Done → Type 0 where
    nowhere : find S a L ≡ nothing → Went (refused b not_live) (refuse not_live L)
    in_place : is_there (find S a L) ≡ 1 → (M : Layout) → stays S n (find S a L) L ≡ some M → Went (in_buffer b (granted a (drawn S M (heap_of S b)))) (grant a M)
    elsewhere : is_there (find S a L) ≡ 1 → (h : List ℕ) (G : Layout) → Ready S b n L h G → (m : Made) → allocate S n G ≡ some m
        → Went (in_buffer b (granted m.at (moved_bytes S h a n G m))) (grant m.at (without S a m.layout))
    as_it_is : is_there (find S a L) ≡ 1 → n ≤ capacity S (find S a L) → Went (granted a b) (grant a L)
    no_way : is_there (find S a L) ≡ 1 → Went (refused b no_room) (refuse no_room L)

  -- of what is live
  found_there : {A : Type 0} (f : Found) → is_there f ≡ 1 → (x y : A) → found S f x y ≡ y
  found_there nothing i x y = absurd (omega (arith, i))
  found_there (block t) i x y = refl
  found_there (thing o c k) i x y = refl

  -- a heap that has grown for n bytes has room for them
  abbrev pub Finds : Type 0
  Finds = allocate S n (longer S n L) ≡ none → ⊥

  abbrev E : ℕ
  E = end_of (length b)

  ran_went : is_there (find S a L) ≡ 1 → {o : Outcome} {d : Done} → Runs S b n L (λ h. moved_bytes S h a n) (λ m. without S a m.layout) o d → Went o d
  ran_went i (none_fits e l) = no_way i
  ran_went i (ran_on h G r m k) = elsewhere i h G r m k

  one_went : Finds → (v : Way) → is_there (find S a L) ≡ 1 → Went (one_way S v b a n L) (one_way_on S v E a n L)
  one_went finds staying i = go (stays S n (find S a L) L) refl
    where
      go : (o : Option Layout) → stays S n (find S a L) L ≡ o → Went (one_way S staying b a n L) (one_way_on S staying E a n L)
      go (some M) k = rw k (in_place i M k)
      go none k = rw (k, refused_own S b no_room) (no_way i)
  one_went finds moving i = ran_went i (runs S b n L finds (λ h. moved_bytes S h a n) (λ m. without S a m.layout))
  one_went finds keeping i = go (dec_le n (capacity S (find S a L)))
    where
      go : Dec (n ≤ capacity S (find S a L)) → Went (one_way S keeping b a n L) (one_way_on S keeping E a n L)
      go (yes k) = rw (le-leb n (capacity S (find S a L)) k) (as_it_is i k)
      go (no k) = rw (lt-leb n (capacity S (find S a L)) (omega (arith, k))) (no_way i)

  next_went : {o p : Outcome} {d e : Done} → Went o d → Went p e → Went (or_next o p) (or_next_on d e)
  next_went (nowhere f) q = nowhere f
  next_went (in_place i M s) q = in_place i M s
  next_went (elsewhere i h G r m k) q = elsewhere i h G r m k
  next_went (as_it_is i c) q = as_it_is i c
  next_went (no_way i) q = q

  -- where nothing is live, all forms lead nowhere
  found_went : (o : Outcome) (d : Done) → (is_there (find S a L) ≡ 1 → Went o d) → Went (found S (find S a L) (refused b not_live) o) (found S (find S a L) (refuse not_live L) d)
  found_went o d w = go (find S a L) refl
    where
      there : is_there (find S a L) ≡ 1 → Went (found S (find S a L) (refused b not_live) o) (found S (find S a L) (refuse not_live L) d)
      there i = rw (found_there {A = Outcome} (find S a L) i, found_there {A = Done} (find S a L) i) (w i)

      go : (f : Found) → find S a L ≡ f → Went (found S (find S a L) (refused b not_live) o) (found S (find S a L) (refuse not_live L) d)
      go nothing e = rw e (nowhere e)
      go (block t) e = there (ap is_there e)
      go (thing o c k) e = there (ap is_there e)

  -- on a heap's own bytes: where nothing is live, and of what is live
  pub heap_nowhere : (v : Way) → find S a L ≡ nothing → heap_resized S v b a n L ≡ refused b not_live
  unfolding heap_resized
  heap_nowhere v e = rw e refl

  pub heap_there : (v : Way) → is_there (find S a L) ≡ 1 → heap_resized S v b a n L ≡ heap_way S v b a n L
  unfolding heap_resized
  heap_there v i = found_there (find S a L) i (refused b not_live) (heap_way S v b a n L)

  -- THE LAWS: where one way leads, and where resize does
  pub went_by : Finds → (v : Way) → Went (resized_by S v b a n L) (resized_by_on S v E a n L)
  unfolding resized_by resized_by_on
  went_by finds v = found_went (one_way S v b a n L) (one_way_on S v E a n L) (one_went finds v)

  pub went : Finds → Went (resized S b a n L) (resized_on S E a n L)
  unfolding resized resized_on
  went finds = found_went _ _ (λ i. next_went (one_went finds staying i) (next_went (one_went finds moving i) (one_went finds keeping i)))

  -- where nothing is live
  pub resized_nowhere : find S a L ≡ nothing → resized S b a n L ≡ refused b not_live
  unfolding resized
  resized_nowhere e = rw e refl

  pub by_nowhere : (v : Way) → find S a L ≡ nothing → resized_by S v b a n L ≡ refused b not_live
  unfolding resized_by
  by_nowhere v e = rw e refl

  -- of what is live
  pub by_there : (v : Way) → is_there (find S a L) ≡ 1 → resized_by S v b a n L ≡ one_way S v b a n L
  unfolding resized_by
  by_there v i = found_there (find S a L) i (refused b not_live) (one_way S v b a n L)

  -- resize is its ways in turn, whatever is found
  in_turn_lem : resized S b a n L ≡ or_next (resized_by S staying b a n L) (or_next (resized_by S moving b a n L) (resized_by S keeping b a n L))
  unfolding resized resized_by
  in_turn_lem = go (find S a L)
    where
      go : (f : Found) → found S f (refused b not_live) (or_next (one_way S staying b a n L) (or_next (one_way S moving b a n L) (one_way S keeping b a n L)))
          ≡ or_next (found S f (refused b not_live) (one_way S staying b a n L)) (or_next (found S f (refused b not_live) (one_way S moving b a n L)) (found S f (refused b not_live) (one_way S keeping b a n L)))
      go nothing = refl
      go (block t) = refl
      go (thing o c k) = refl

  -- a way is shut
  abbrev pub Shut : Way → Type 0
  Shut staying = stays S n (find S a L) L ≡ none
  Shut moving = (allocate S n L ≡ none) × (E < end_in S (longer S n L))
  Shut keeping = capacity S (find S a L) < n

  -- one way says "no room" exactly where it is shut, resize where all are
  ran_none : {bytes : List ℕ → Layout → Made → List ℕ} {then : Made → Layout} {o : Outcome} {d : Done} → Runs S b n L bytes then o d → o.refusal ≡ no_room → (allocate S n L ≡ none) × (E < end_in S (longer S n L))
  ran_none (none_fits e l) z = (e, l)
  ran_none (ran_on h G r m k) z = absurd (omega (arith, z))

  -- an allocation, and so a move, says "no room" exactly where it finds nothing and the heap cannot grow for it
  pub growing_none : Finds → (bytes : List ℕ → Layout → Made → List ℕ) → ((growing S n b (λ h M. made S h (allocate S n M) (bytes h M)) L).refusal ≡ no_room) ↔ ((allocate S n L ≡ none) × (E < end_in S (longer S n L)))
  growing_none finds bytes = (
    ran_none (runs S b n L finds bytes (λ m. m.layout)),
    (λ x. none_ran x (runs S b n L finds bytes (λ m. m.layout))),
  )
    where
      none_ran : (allocate S n L ≡ none) × (E < end_in S (longer S n L)) → {o : Outcome} {d : Done} → Runs S b n L bytes (λ m. m.layout) o d → o.refusal ≡ no_room
      none_ran x (none_fits e l) = refl
      none_ran x (ran_on h G own m k) = absurd (let z : ◌≡◌ {A = ℕ} 0 1 = no_some (sym x.0 ∙ k) in omega (arith, z))
      none_ran x (ran_on h G (grew e l) m k) = absurd (omega (arith, x.1, l))

  one_shut : Finds → (v : Way) → ((one_way S v b a n L).refusal ≡ no_room) ↔ Shut v
  one_shut finds staying = go (stays S n (find S a L) L)
    where
      go : (o : Option Layout) → ((placed S (heap_of S b) a o).refusal ≡ no_room) ↔ (o ≡ none)
      go none = ((λ e. refl), (λ e. refl))
      go (some M) = ((λ e. absurd (omega (arith, e))), (λ e. ap (λ (o : Option Layout). (placed S (heap_of S b) a o).refusal) e))
  one_shut finds moving = growing_none finds (λ h. moved_bytes S h a n)
  one_shut finds keeping = go (dec_le n (capacity S (find S a L)))
    where
      go : Dec (n ≤ capacity S (find S a L)) → ((kept S b a n L).refusal ≡ no_room) ↔ (capacity S (find S a L) < n)
      go (yes k) = rw (le-leb n (capacity S (find S a L)) k) ((λ e. absurd (omega (arith, e))), (λ e. absurd (omega (arith, e, k))))
      go (no k) = rw (lt-leb n (capacity S (find S a L)) (omega (arith, k))) ((λ e. omega (arith, k)), (λ e. refl))

  module _ (finds : Finds) (i : is_there (find S a L) ≡ 1) where
    pub by_shut : (v : Way) → ((resized_by S v b a n L).refusal ≡ no_room) ↔ Shut v
    by_shut v = rw (by_there v i) (one_shut finds v)

    pub all_shut : ((resized S b a n L).refusal ≡ no_room) ↔ (Shut staying × Shut moving × Shut keeping)
    all_shut =
        let s = by_shut staying in
        let m = by_shut moving in
        let k = by_shut keeping in
        let x = next_six (resized_by S staying b a n L) (or_next (resized_by S moving b a n L) (resized_by S keeping b a n L)) in
        let y = next_six (resized_by S moving b a n L) (resized_by S keeping b a n L) in
        rw in_turn_lem (
          (λ e. let p = x.0 e in let q = y.0 p.1 in (s.0 p.0, m.0 q.0, k.0 q.1)),
          (λ e. x.1 (s.1 e.0, y.1 (m.1 e.1, k.1 e.2))),
        )

    -- a record that holds n bytes already, and can neither stay nor move, is kept
    pub shut_kept : Shut staying → Shut moving → n ≤ capacity S (find S a L) → resized S b a n L ≡ granted a b
    unfolding resized
    shut_kept s m c =
        let x : (one_way S staying b a n L).refusal ≡ no_room = (one_shut finds staying).1 s in
        let y : (one_way S moving b a n L).refusal ≡ no_room = (one_shut finds moving).1 m in
        rw (found_there {A = Outcome} (find S a L) i) (next_of_lem (one_way S staying b a n L) _ x ∙ next_of_lem (one_way S moving b a n L) _ y ∙ rw (le-leb n (capacity S (find S a L)) c) refl)

  -- a resize of any form that is not granted leaves the heap as it was
  pub went_plain : {o : Outcome} {d : Done} → Went o d → (o.refusal ≡ 0 → ⊥) → o ≡ refused b o.refusal
  went_plain (nowhere f) z = refl
  went_plain (in_place i M s) z = absurd (z refl)
  went_plain (elsewhere i h G r m k) z = absurd (z refl)
  went_plain (as_it_is i c) z = absurd (z refl)
  went_plain (no_way i) z = refl

  sized_leaves : (1 ≤ n → Finds) → (v : Way) → (sized S n b (resized_by S v b a n L)).refusal ≡ no_room → (sized S n b (resized_by S v b a n L)).heap ≡ b
  sized_leaves finds v = go (good_or_bad S n)
    where
      go : Dec (GoodSize S n) → (sized S n b (resized_by S v b a n L)).refusal ≡ no_room → (sized S n b (resized_by S v b a n L)).heap ≡ b
      go (yes g) = rw (good S n g) (λ e. ap (λ (o : Outcome). o.heap) (went_plain (went_by (finds g.0) v) (λ z. omega (arith, e, z))))
      go (no g) = rw (bad S n g) (λ e. refl)

  sized_in_turn : sized S n b (resized S b a n L) ≡ or_next (sized S n b (resized_by S staying b a n L)) (or_next (sized S n b (resized_by S moving b a n L)) (sized S n b (resized_by S keeping b a n L)))
  sized_in_turn = go (leb 1 n && leb n S.most)
    where
      go : (y : Bool) → cond y (resized S b a n L) (refused b bad_size)
          ≡ or_next (cond y (resized_by S staying b a n L) (refused b bad_size)) (or_next (cond y (resized_by S moving b a n L) (refused b bad_size)) (cond y (resized_by S keeping b a n L) (refused b bad_size)))
      go true = in_turn_lem
      go false = refl

-- THE SPLIT: trying the ways one after the other, each as a call by itself, gives what resize gives
pub split_gives : {w : ℕ} → Width w → SplitGives (shape w)
split_gives {w} wd b a n r s t p q k =
    record {
      one = λ m. rw (p.one m) refl;
      two = λ l m. rw (p.two l m) refl;
      three = λ l o m. rw (p.three l o m) refl;
      sound = λ l L h.
          let pr = p.sound l L h in
          next_same r (sized (shape w) n b (resized_by (shape w) staying b a n L)) (or_next s t) (or_next (sized (shape w) n b (resized_by (shape w) moving b a n L)) (sized (shape w) n b (resized_by (shape w) keeping b a n L))) pr
          (λ e.
          let er : r.heap ≡ b = heap_of_lem r staying L h pr e in
          let ps = (subst (λ (c : List ℕ). Moves (shape w) c a n s) er (q e)).sound l L h in
          next_same s (sized (shape w) n b (resized_by (shape w) moving b a n L)) t (sized (shape w) n b (resized_by (shape w) keeping b a n L)) ps
          (λ f. (subst (λ (c : List ℕ). Keeps (shape w) c a n t) (heap_of_lem s moving L h ps f) (k e f)).sound l L h))
          ∙ sym (sized_in_turn (shape w) b a n L);
    }
  where
    heap_of_lem : (o : Outcome) (v : Way) (L : Layout) → HereIn (shape w) b L → o ≡ sized (shape w) n b (resized_by (shape w) v b a n L) → o.refusal ≡ no_room → o.heap ≡ b
    heap_of_lem o v L h e f = ap (λ (x : Outcome). x.heap) e ∙ sized_leaves (shape w) b a n L (λ one. longer_finds wd n one (end_of (length (heap_of (shape w) b))) L h.here.valid) v (sym (ap (λ (x : Outcome). x.refusal) e) ∙ f)

-- What a call of a run answers and leaves is what the rules say of its heap's layout, and the layout that is left is that of the buffer.
use Rattle.std.proofs.Common.{ℕ, ◌≤◌, ◌<◌, ◌%◌, ◌≡◌, refl, sym, ap, subst, ◌∙◌, List, arith, length, get_or}
use Rattle.std.proofs.Math.Option.{none}
use Rattle.words.specs.Width.{Width}
use Rattle.words.specs.Word.{Bytes}
use Rattle.model.specs.Shape.{shape, start, end_of}
use Rattle.model.specs.Parts.{magic_bytes}
use Rattle.model.specs.Layout.{Layout, ends}
use Rattle.model.specs.Sound.{MayEnd, stored_end, heap_of, HereIn}
use Rattle.model.specs.Rules.{Found, block, thing, nothing, allocate, longer, find}
use Rattle.model.specs.Refusals.{not_live}
use Rattle.model.specs.Calls.{Outcome, refused, Lent, GoodSize, in_buffer, drawn, growing, ordinary, sized, found, allocated, freed_at, swept_all}
use Rattle.model.specs.Promises.{Call, initialising, checking, allocating, freeing, resizing, resizing_by, sweeping, Comes, Plain}
use Rattle.model.proofs.Good.{shape_good}
use Rattle.model.proofs.pictures.Fronts.{fronted_own, front_length, front_below, front_behind, front_bytes, front_end, front_here, own_ends}
use Rattle.model.proofs.rules.Allocation.{allocate_grants}
use Rattle.model.proofs.rules.Growth.{longer_finds}
use Rattle.model.proofs.rules.Ready.{Runs, none_fits, ran_on, runs, RunsOn, runs_own, ready_runs}
use Rattle.model.proofs.rules.Sized.{good, bad, good_or_bad}
use Rattle.model.proofs.rules.OnLayouts.{Done, sized_on, doing}
use Rattle.promises.proofs.Heaps.{Does, drew, freed_valid, sweeping_done}

module _ {w : ℕ} (wd : Width w) where
  -- an outcome is what was done on the layout; where that stays, so does every byte; the magic number stays; the end does not fall, and no byte behind it is touched
  pub record DoesIn (b : List ℕ) (L : Layout) (r : Outcome) (d : Done) : Type 0 where
    pub refusal : r.refusal ≡ d.refusal
    pub address : r.address ≡ d.address
    pub same : length r.heap ≡ length b
    pub here : HereIn (shape w) r.heap d.layout
    pub bytes : Bytes b → Bytes r.heap
    pub still : d.layout ≡ L → Bytes b → r.heap ≡ b
    pub magic : (i : ℕ) → i < magic_bytes → get_or r.heap i 0 ≡ get_or b i 0
    pub rises : stored_end (shape w) b ≤ stored_end (shape w) r.heap
    pub behind : (i : ℕ) → stored_end (shape w) r.heap ≤ i → get_or r.heap i 0 ≡ get_or b i 0

  -- a heap that has grown for n bytes has room for them
  pub finds : (b : List ℕ) (L : Layout) → HereIn (shape w) b L → (n : ℕ) → 1 ≤ n → allocate (shape w) n (longer (shape w) n L) ≡ none → ⊥
  finds b L h n one = longer_finds wd n one (end_of (length (heap_of (shape w) b))) L h.here.valid

  module _ (b : List ℕ) (L : Layout) (l : Lent (shape w) b) (h : HereIn (shape w) b L) where
    -- what is done where nothing is written
    pub left : (k a : ℕ) → DoesIn b L (record { refusal = k; address = a; heap = b }) (record { refusal = k; address = a; layout = L })
    left k a = record { refusal = refl; address = refl; same = refl; here = h; bytes = λ x. x; still = λ e x. refl; magic = λ i m. refl; rises = omega arith; behind = λ i m. refl }

    -- what is done on the bytes and the layout where a rule runs, in the buffer
    pub lifted : {c : List ℕ} {M : Layout} → RunsOn wd b L c M → (r : Outcome) (d : Done) → Does wd c M r d → DoesIn b L (in_buffer b r) d
    lifted {c} {M} on r d x =
        let eight : length r.heap % 8 ≡ 0 = rw x.same on.eight in
        let ended = front_end (shape w) r.heap b d.layout x.here eight in
        record {
          refusal = x.refusal;
          address = x.address;
          same = front_length r.heap b (omega (arith, x.same, on.may.1));
          here = front_here (shape w) r.heap b d.layout x.here eight (subst (λ (n : ℕ). MayEnd (shape w) (length b) n) (sym x.same) on.may);
          bytes = λ k. front_bytes r.heap b (x.bytes (on.bytes k)) k;
          still = λ e k. as_it_was e k;
          magic = λ i m. front_below r.heap b i (omega (arith, m, x.same, on.lent.0)) ∙ x.magic i m ∙ on.magic i m;
          rises = omega (arith, ended, x.same, on.rises);
          behind = λ i m. front_behind r.heap b i (omega (arith, ended, m));
        }
      where
        -- a layout that stays has the same end, so the heap did not grow
        as_it_was : d.layout ≡ L → Bytes b → (in_buffer b r).heap ≡ b
        as_it_was e k =
            let ends_there : ends (shape w) (start (shape w)) L.blocks ≡ end_of (length r.heap) = subst (λ (N : Layout). ends (shape w) (start (shape w)) N.blocks ≡ end_of (length r.heap)) e x.here.valid.fills in
            let z = on.still (omega (arith, ends_there, x.same, on.eight, h.here.valid.fills, own_ends (shape w) b L h)) in
            let q : r.heap ≡ heap_of (shape w) b = x.still (e ∙ sym z.1) (on.bytes k) ∙ z.0 in
            ap (λ (y : List ℕ). (in_buffer b (record { refusal = 0; address = 0; heap = y })).heap) q ∙ fronted_own (stored_end (shape w) b) b

    pub sized_does : (n : ℕ) (o : Outcome) (d : Done) → (1 ≤ n → DoesIn b L o d) → DoesIn b L (sized (shape w) n b o) (sized_on (shape w) n L d)
    sized_does n o d x = go (good_or_bad (shape w) n)
      where
        go : Dec (GoodSize (shape w) n) → DoesIn b L (sized (shape w) n b o) (sized_on (shape w) n L d)
        go (yes g) = rw (good (shape w) n g) (x g.0)
        go (no g) = rw (bad (shape w) n g) (left _ _)

    ran_does : {n : ℕ} → 1 ≤ n → {o : Outcome} {d : Done} → Runs (shape w) b n L (λ c M m. drawn (shape w) m.layout c) (λ m. m.layout) o d → DoesIn b L o d
    ran_does one (none_fits e k) = left _ _
    ran_does {n} one (ran_on c M r m k) =
        let on = ready_runs wd b L l h n one r in
        lifted on _ _ (drew wd c M on.lent on.here m.at m.layout (allocate_grants (shape w) (end_of (length c)) n (shape_good wd) one M m on.here.valid k).valid)

    allocating_does : (n : ℕ) → DoesIn b L (sized (shape w) n b (growing (shape w) n b (λ c. allocated (shape w) c n) L)) (doing (shape w) (end_of (length b)) (allocating n) L)
    unfolding doing
    allocating_does n = sized_does n _ _ (λ one. ran_does one (runs (shape w) b n L (finds b L h n one) (λ c M m. drawn (shape w) m.layout c) (λ m. m.layout)))

    freeing_does : (a : ℕ) → DoesIn b L (found (shape w) (find (shape w) a L) (refused b not_live) (ordinary (shape w) b (freed_at (shape w) a) L)) (doing (shape w) (end_of (length b)) (freeing a) L)
    unfolding doing
    freeing_does a = go (find (shape w) a L) refl
      where
        on : RunsOn wd b L (heap_of (shape w) b) L
        on = runs_own wd b L l h

        go : (f : Found) → find (shape w) a L ≡ f → DoesIn b L (found (shape w) (find (shape w) a L) (refused b not_live) (ordinary (shape w) b (freed_at (shape w) a) L)) (doing (shape w) (end_of (length b)) (freeing a) L)
        go nothing e = rw e (left _ _)
        go (block t) e = rw e (lifted on _ _ (drew wd (heap_of (shape w) b) L on.lent on.here 0 _ (freed_valid wd (heap_of (shape w) b) L on.lent on.here a (block t) e refl)))
        go (thing o c k) e = rw e (lifted on _ _ (drew wd (heap_of (shape w) b) L on.lent on.here 0 _ (freed_valid wd (heap_of (shape w) b) L on.lent on.here a (thing o c k) e refl)))

    sweeping_does : DoesIn b L (ordinary (shape w) b (swept_all (shape w)) L) (doing (shape w) (end_of (length b)) sweeping L)
    unfolding doing
    sweeping_does = let on = runs_own wd b L l h in lifted on _ _ (sweeping_done wd (heap_of (shape w) b) L on.lent on.here)

    pub does_same : (r o : Outcome) (d : Done) → r ≡ o → DoesIn b L o d → DoesIn b L r d
    does_same r o d e x = subst (λ (y : Outcome). DoesIn b L y d) (sym e) x

    pub answers : (q : Call) → Plain (shape w) q → (r : Outcome) → Comes (shape w) b q r → DoesIn b L r (doing (shape w) (end_of (length b)) q L)
    unfolding Comes
    answers (initialising e) p r c = absurd p
    answers checking p r c = absurd p
    answers (allocating n) p r c = does_same r _ _ (c.sound l L h) (allocating_does n)
    answers (freeing a) p r c = does_same r _ _ (c.sound l L h) (freeing_does a)
    answers (resizing a n) p r c = absurd p
    answers (resizing_by v a n) p r c = absurd p
    answers sweeping p r c = does_same r _ _ (c.sound l L h) sweeping_does

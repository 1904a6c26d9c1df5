-- The end of a heap never falls, only calls that may grow it move it, and no byte behind it is touched.
use Rattle.std.proofs.Common.{ℕ, ◌≤◌, ◌≡◌, refl, ap, ◌∙◌, List, arith, get_or, leb, Bool, true, false, cond}
use Rattle.std.proofs.Math.Option.{Option, none, some}
use Rattle.std.proofs.Math.Decide.{ℕ_discrete}
use Rattle.words.specs.Width.{Width}
use Rattle.model.specs.Shape.{shape}
use Rattle.model.specs.Layout.{Layout}
use Rattle.model.specs.Sound.{stored_end, heap_of, HereIn}
use Rattle.model.specs.Rules.{Found, block, thing, nothing, find, capacity, stays}
use Rattle.model.specs.Refusals.{not_live, no_room}
use Rattle.model.specs.Calls.{Way, staying, moving, keeping, Outcome, Lent, GoodSize, Checked, refused, granted, in_buffer, ordinary, found, sized, freed_at, placed, one_way, resized_by}
use Rattle.model.specs.Promises.{Call, initialising, checking, allocating, freeing, resizing, resizing_by, sweeping, MayGrow, Comes, EndRises, EndStays, BehindUntouched}
use Rattle.model.proofs.Good.{shape_good}
use Rattle.model.proofs.pictures.Fronts.{front_end, refused_own, own_length, own_opened}
use Rattle.model.proofs.lives.LiveFound.{is_there}
use Rattle.model.proofs.lives.StayLives.{stays_stayed}
use Rattle.model.proofs.rules.Sized.{good, bad, good_or_bad}
use Rattle.model.proofs.rules.OnLayouts.{Done}
use Rattle.model.proofs.rules.Ready.{RunsOn, runs_own}
use Rattle.model.proofs.rules.ResizeWays.{by_nowhere, by_there}
use Rattle.promises.proofs.Stable.{numbers}
use Rattle.promises.proofs.Cases.{checked_cases, opening_cases}
use Rattle.promises.proofs.Refused.{refused_untouched}
use Rattle.promises.proofs.Opened.{fresh_of_lem}
use Rattle.promises.proofs.Heaps.{Does, drew, freed_valid, sweeping_done}
use Rattle.promises.proofs.Doing.{does}
use Rattle.promises.proofs.StaysSound.{granted_does}

module _ {w : ℕ} (wd : Width w) where
  pub end_rises : EndRises (shape w)
  end_rises b q r c s = go (ℕ_discrete r.refusal 0)
    where
      go : Dec (r.refusal ≡ 0) → stored_end (shape w) b ≤ stored_end (shape w) r.heap
      go (yes g) = (granted_does wd b q r c g s.layout s.here).rises
      go (no g) = omega (arith, ap (λ (o : Outcome). stored_end (shape w) o.heap) (refused_untouched wd b q r c g))

  -- what is done on the heap's own bytes leaves the end
  module _ (b : List ℕ) (L : Layout) (l : Lent (shape w) b) (h : HereIn (shape w) b L) where
    abbrev EndOf : Outcome → Type 0
    EndOf o = stored_end (shape w) o.heap ≡ stored_end (shape w) b

    on : RunsOn wd b L (heap_of (shape w) b) L
    on = runs_own wd b L l h

    own_end : (o : Outcome) (d : Done) → Does wd (heap_of (shape w) b) L o d → EndOf (in_buffer b o)
    own_end o d x = front_end (shape w) o.heap b d.layout x.here (rw x.same on.eight) ∙ x.same ∙ own_length (shape w) b L h

    free_end : (a : ℕ) (f : Found) → find (shape w) a L ≡ f → EndOf (found (shape w) f (refused b not_live) (ordinary (shape w) b (freed_at (shape w) a) L))
    free_end a nothing e = refl
    free_end a (block t) e = rw e (own_end _ _ (drew wd (heap_of (shape w) b) L on.lent on.here 0 _ (freed_valid wd (heap_of (shape w) b) L on.lent on.here a (block t) e refl)))
    free_end a (thing o c k) e = rw e (own_end _ _ (drew wd (heap_of (shape w) b) L on.lent on.here 0 _ (freed_valid wd (heap_of (shape w) b) L on.lent on.here a (thing o c k) e refl)))

    sized_end : (n : ℕ) (o : Outcome) → (1 ≤ n → EndOf o) → EndOf (sized (shape w) n b o)
    sized_end n o x = go (good_or_bad (shape w) n)
      where
        go : Dec (GoodSize (shape w) n) → EndOf (sized (shape w) n b o)
        go (yes g) = rw (good (shape w) n g) (x g.0)
        go (no g) = rw (bad (shape w) n g) refl

    placed_end : (a n : ℕ) → 1 ≤ n → (o : Option Layout) → stays (shape w) n (find (shape w) a L) L ≡ o → EndOf (in_buffer b (placed (shape w) (heap_of (shape w) b) a o))
    placed_end a n one none e = ap (λ (o : Outcome). stored_end (shape w) o.heap) (refused_own (shape w) b no_room)
    placed_end a n one (some M) e = own_end _ _ (drew wd (heap_of (shape w) b) L on.lent on.here a M (stays_stayed (shape w) (shape_good wd) n a one h.here.valid M e).valid)

    way_end : (v : Way) (a n : ℕ) → (MayGrow (resizing_by v a n) → ⊥) → 1 ≤ n → EndOf (one_way (shape w) v b a n L)
    way_end staying a n z one = placed_end a n one (stays (shape w) n (find (shape w) a L) L) refl
    way_end moving a n z one = absurd (z tt)
    way_end keeping a n z one = go (leb n (capacity (shape w) (find (shape w) a L)))
      where
        go : (y : Bool) → EndOf (cond y (granted a b) (refused b no_room))
        go true = refl
        go false = refl

    by_end : (v : Way) (a n : ℕ) → (MayGrow (resizing_by v a n) → ⊥) → 1 ≤ n → (f : Found) → find (shape w) a L ≡ f → EndOf (resized_by (shape w) v b a n L)
    by_end v a n z one nothing e = ap (λ (o : Outcome). stored_end (shape w) o.heap) (by_nowhere (shape w) b a n L v e)
    by_end v a n z one (block t) e = ap (λ (o : Outcome). stored_end (shape w) o.heap) (by_there (shape w) b a n L v (ap is_there e)) ∙ way_end v a n z one
    by_end v a n z one (thing o c k) e = ap (λ (o : Outcome). stored_end (shape w) o.heap) (by_there (shape w) b a n L v (ap is_there e)) ∙ way_end v a n z one

    -- every call that cannot grow the heap
    call_end : (q : Call) → (MayGrow q → ⊥) → (r : Outcome) → Comes (shape w) b q r → EndOf r
    unfolding Comes
    call_end (initialising e) z r c = ap (λ (o : Outcome). stored_end (shape w) o.heap) (c.seven l (own_opened (shape w) b L h))
    call_end checking z r c = ap (λ (o : Outcome). stored_end (shape w) o.heap) (c.sound l L h)
    call_end (allocating n) z r c = absurd (z tt)
    call_end (freeing a) z r c = ap (λ (o : Outcome). stored_end (shape w) o.heap) (c.sound l L h) ∙ free_end a (find (shape w) a L) refl
    call_end (resizing a n) z r c = absurd (z tt)
    call_end (resizing_by v a n) z r c = ap (λ (o : Outcome). stored_end (shape w) o.heap) (c.sound l L h) ∙ sized_end n _ (λ one. by_end v a n z one (find (shape w) a L) refl)
    call_end sweeping z r c = ap (λ (o : Outcome). stored_end (shape w) o.heap) (c.sound l L h) ∙ own_end _ _ (sweeping_done wd (heap_of (shape w) b) L on.lent on.here)

  -- a buffer of another length gets 1, and stays as it is
  refuses : (b : List ℕ) (r : Outcome) (q : Call) → Comes (shape w) b q r → (Lent (shape w) b → ⊥) → stored_end (shape w) r.heap ≡ stored_end (shape w) b
  unfolding Comes
  refuses b r (initialising e) c m = ap (λ (o : Outcome). stored_end (shape w) o.heap) (c.one m)
  refuses b r checking c m = ap (λ (o : Outcome). stored_end (shape w) o.heap) (c.one m)
  refuses b r (allocating n) c m = ap (λ (o : Outcome). stored_end (shape w) o.heap) (c.one m)
  refuses b r (freeing a) c m = ap (λ (o : Outcome). stored_end (shape w) o.heap) (c.one m)
  refuses b r (resizing a n) c m = ap (λ (o : Outcome). stored_end (shape w) o.heap) (c.one m)
  refuses b r (resizing_by v a n) c m = ap (λ (o : Outcome). stored_end (shape w) o.heap) (c.one m)
  refuses b r sweeping c m = ap (λ (o : Outcome). stored_end (shape w) o.heap) (c.one m)

  pub end_stays : EndStays (shape w)
  end_stays b q r c s z = numbers (stored_end (shape w) r.heap) (stored_end (shape w) b) (λ n. not_lent n (λ l. n (call_end b s.layout l s.here q z r c)))
    where
      not_lent : (stored_end (shape w) r.heap ≡ stored_end (shape w) b → ⊥) → (Lent (shape w) b → ⊥) → ⊥
      not_lent n m = n (refuses b r q c m)

  -- a call that was refused leaves every byte, and one that was granted those behind the end then
  module _ (b : List ℕ) (r : Outcome) (i : ℕ) (past : stored_end (shape w) r.heap ≤ i) where
    abbrev Same : Type 0
    Same = get_or r.heap i 0 ≡ get_or b i 0

    as_it_was : {k : ℕ} → r ≡ refused b k → Same
    as_it_was e = ap (λ (o : Outcome). get_or o.heap i 0) e

    checked_behind : (q : Call) (rule : Layout → Outcome) → Checked (shape w) b (refused b) rule r → Comes (shape w) b q r → Same
    checked_behind q rule c x =
        numbers (get_or r.heap i 0) (get_or b i 0)
        (checked_cases (shape w) b (λ m. as_it_was (c.one m)) (λ l m. as_it_was (c.two l m)) (λ l o m. as_it_was (c.three l o m)) (λ l L h. (does wd b L l h q r x).behind i past))

    behind : (q : Call) → Comes (shape w) b q r → Same
    unfolding Comes
    behind (initialising e) c =
        numbers (get_or r.heap i 0) (get_or b i 0)
        (opening_cases (shape w) b e (λ m. as_it_was (c.one m)) (λ l o. as_it_was (c.seven l o)) (λ l m k. as_it_was (c.eight l m k)) (λ l m k. let f = fresh_of_lem wd b e r c l m k in f.behind i (omega (arith, f.end, past))))
    behind checking c = checked_behind checking _ c c
    behind (allocating n) c = checked_behind (allocating n) _ c c
    behind (freeing a) c = checked_behind (freeing a) _ c c
    behind (resizing a n) c = checked_behind (resizing a n) _ c c
    behind (resizing_by v a n) c = checked_behind (resizing_by v a n) _ c c
    behind sweeping c = checked_behind sweeping _ c c

  pub behind_untouched : BehindUntouched (shape w)
  behind_untouched b q r c i past = behind b r i past q c

-- What any call answers of a sound heap, and leaves, is what the rules say of its layout.
use Rattle.std.proofs.Common.{ℕ, ◌≤◌, ◌≡◌, refl, sym, ap, subst, List, arith, length}
use Rattle.words.specs.Width.{Width}
use Rattle.model.specs.Shape.{shape, end_of}
use Rattle.model.specs.Layout.{Layout}
use Rattle.model.specs.Sound.{heap_of, HereIn}
use Rattle.model.specs.Rules.{find}
use Rattle.model.specs.Live.{◌∈◌, Payload}
use Rattle.model.specs.Refusals.{already_opened}
use Rattle.model.specs.Calls.{Outcome, refused, granted, Lent, sized}
use Rattle.model.specs.Promises.{Call, initialising, checking, allocating, freeing, resizing, resizing_by, sweeping, Comes}
use Rattle.model.proofs.Good.{shape_good}
use Rattle.model.proofs.pictures.Fronts.{own_opened}
use Rattle.model.proofs.lives.StayLives.{stays_stayed}
use Rattle.model.proofs.lives.LiveFound.{is_there, live_is_there}
use Rattle.model.proofs.lives.FreeLives.{freed_removes}
use Rattle.model.proofs.rules.Ready.{RunsOn, runs_own, ready_runs}
use Rattle.model.proofs.rules.OnLayouts.{Done, sized_on, doing}
use Rattle.model.proofs.rules.ResizeWays.{Went, nowhere, in_place, elsewhere, as_it_is, no_way, went, went_by}
use Rattle.promises.proofs.Heaps.{drew}
use Rattle.promises.proofs.Answers.{DoesIn, finds, left, lifted, sized_does, does_same, answers}
use Rattle.promises.proofs.Moved.{moved_does}

module _ {w : ℕ} (wd : Width w) where
  -- what is live in a heap is live where a rule runs
  pub there_too : (b : List ℕ) (L : Layout) → HereIn (shape w) b L → {c : List ℕ} {M : Layout} → RunsOn wd b L c M → (a : ℕ) → is_there (find (shape w) a L) ≡ 1 → is_there (find (shape w) a M) ≡ 1
  there_too b L h on a i =
      let s = freed_removes (shape w) (shape_good wd) h.here.valid a (find (shape w) a L) refl (λ e. omega (arith, i, ap is_there e)) in
      live_is_there (shape w) (shape_good wd) on.here.valid a s.payload (subst (λ (l : List Payload). s.payload ∈ l) (sym on.lives) s.adds.there) s.at

  module _ (b : List ℕ) (L : Layout) (l : Lent (shape w) b) (h : HereIn (shape w) b L) where
    -- a resize of any form
    pub went_does : {a n : ℕ} → 1 ≤ n → {o : Outcome} {d : Done} → Went (shape w) b a n L o d → DoesIn wd b L o d
    went_does one (nowhere e) = left wd b L l h _ _
    went_does {a} {n} one (in_place i M s) =
        let on = runs_own wd b L l h in
        lifted wd b L l h on _ _ (drew wd (heap_of (shape w) b) L on.lent on.here a M (stays_stayed (shape w) (shape_good wd) n a one h.here.valid M s).valid)
    went_does {a} {n} one (elsewhere i c G r m k) =
        let on = ready_runs wd b L l h n one r in
        lifted wd b L l h on _ _ (moved_does wd c G on.lent on.here a n one m k (there_too b L h on a i))
    went_does one (as_it_is i c) = left wd b L l h _ _
    went_does one (no_way i) = left wd b L l h _ _

    resizing_does : {a n : ℕ} {o : Outcome} {d : Done} → (1 ≤ n → Went (shape w) b a n L o d) → (r : Outcome) → r ≡ sized (shape w) n b o → DoesIn wd b L r (sized_on (shape w) n L d)
    resizing_does {a} {n} {o} {d} x r e = does_same wd b L l h r (sized (shape w) n b o) (sized_on (shape w) n L d) e (sized_does wd b L l h n o d (λ one. went_does one (x one)))

    -- every call
    pub does : (q : Call) (r : Outcome) → Comes (shape w) b q r → DoesIn wd b L r (doing (shape w) (end_of (length b)) q L)
    unfolding Comes doing
    does (initialising e) r c = does_same wd b L l h r (refused b already_opened) _ (c.seven l (own_opened (shape w) b L h)) (left wd b L l h _ _)
    does checking r c = does_same wd b L l h r (granted 0 b) _ (c.sound l L h) (left wd b L l h _ _)
    does (allocating n) r c = answers wd b L l h (allocating n) tt r c
    does (freeing a) r c = answers wd b L l h (freeing a) tt r c
    does (resizing a n) r c = resizing_does (λ one. went (shape w) b a n L (finds wd b L h n one)) r (c.sound l L h)
    does (resizing_by v a n) r c = resizing_does (λ one. went_by (shape w) b a n L (finds wd b L h n one) v) r (c.sound l L h)
    does sweeping r c = answers wd b L l h sweeping tt r c

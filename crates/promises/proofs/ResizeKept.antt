-- Resize alters no payload but its own, makes nothing else live, grants what holds n bytes, and keeps the common beginning.
use Rattle.std.proofs.Common.{ℕ, ◌≤◌, min, ◌≡◌, refl, sym, ap, subst, ◌∙◌, List, inl, arith, length, take, drop}
use Rattle.std.proofs.Math.Nat.{min-le_left, min-le_right}
use Rattle.words.specs.Width.{Width}
use Rattle.model.specs.Shape.{shape, end_of}
use Rattle.model.specs.Layout.{Layout}
use Rattle.model.specs.Sound.{Valid, heap_of, HereIn}
use Rattle.model.specs.Rules.{find, capacity}
use Rattle.model.specs.Calls.{Way, Outcome, granted, Lent, drawn, sized, without, moved_bytes}
use Rattle.model.specs.Promises.{resizing, resizing_by, ResizeKept, Comes, ResizeKeeps}
use Rattle.model.proofs.Good.{shape_good}
use Rattle.model.proofs.lives.Payloads.{content_kept}
use Rattle.sound.proofs.OneLayout.{one_layout}
use Rattle.model.proofs.lives.StayLives.{Stayed, stays_stayed}
use Rattle.model.proofs.rules.OnLayouts.{Done}
use Rattle.model.proofs.rules.ResizeWays.{Went, nowhere, in_place, elsewhere, as_it_is, no_way, went, went_by}
use Rattle.promises.proofs.Cases.{granted_size}
use Rattle.model.proofs.rules.Ready.{runs_own, ready_runs}
use Rattle.promises.proofs.Heaps.{draws}
use Rattle.promises.proofs.Answers.{finds, does_same}
use Rattle.promises.proofs.Lifting.{resize_in}
use Rattle.promises.proofs.FoundLive.{found_size, shown_within}
use Rattle.promises.proofs.Parts.{take_take}
use Rattle.promises.proofs.Moved.{moved_here, moved_kept}
use Rattle.promises.proofs.Doing.{there_too, went_does}

module _ {w : ℕ} (wd : Width w) where
  -- in place
  stayed_kept : (b : List ℕ) (a n : ℕ) (L M : Layout) → Valid (shape w) (end_of (length b)) L → Stayed (shape w) n a L (end_of (length b)) M → ResizeKept (shape w) b a n L (granted a (drawn (shape w) M b)) M
  stayed_kept b a n L M v s = (
    (λ x h o. (s.others x h o, content_kept (shape w) (end_of (length b)) M b s.valid x (s.others x h o))),
    s.only,
    (λ x h e. (
      s.payload,
      s.there,
      s.at,
      s.large,
      ap (λ (z : List ℕ). take (min x.shown n) z) (content_kept (shape w) (end_of (length b)) M b s.valid s.payload s.there)
          ∙ take_take (min x.shown n) s.payload.size (drop s.payload.address b) (omega (arith, min-le_right x.shown n, s.large))
          ∙ ap (λ (z : ℕ). take (min x.shown n) (drop z b)) (s.at ∙ sym e)
          ∙ sym (take_take (min x.shown n) x.size (drop x.address b) (omega (arith, min-le_left x.shown n, shown_within wd (end_of (length b)) L v x h))),
    )),
    (λ n. absurd (n refl)),
  )

  module _ (b : List ℕ) (a n : ℕ) (L : Layout) (l : Lent (shape w) b) (h : HereIn (shape w) b L) where
    -- as it is
    unmoved_kept : n ≤ capacity (shape w) (find (shape w) a L) → ResizeKept (shape w) b a n L (granted a b) L
    unmoved_kept c = (
      (λ x i o. (i, refl)),
      (λ x i. inl i),
      (λ x i e. (x, i, e, omega (arith, c, found_size wd (end_of (length (heap_of (shape w) b))) L a h.here.valid x i e), refl)),
      (λ o. absurd (o refl)),
    )

    -- wherever a granted resize led
    went_kept : 1 ≤ n → {o : Outcome} {d : Done} → Went (shape w) b a n L o d → o.refusal ≡ 0 → ResizeKept (shape w) b a n L o d.layout
    went_kept one (nowhere e) g = absurd (omega (arith, g))
    went_kept one (in_place i M s) g =
        let on = runs_own wd b L l h in
        let k = stays_stayed (shape w) (shape_good wd) n a one h.here.valid M s in
        resize_in wd on (granted a (drawn (shape w) M (heap_of (shape w) b))) M (draws wd (heap_of (shape w) b) L on.lent on.here M k.valid) a n (stayed_kept (heap_of (shape w) b) a n L M h.here.valid k)
    went_kept one (elsewhere i c G r m k) g =
        let on = ready_runs wd b L l h n one r in
        let j = there_too wd b L h on a i in
        resize_in wd on (granted m.at (moved_bytes (shape w) c a n G m)) (without (shape w) a m.layout) (moved_here wd c G on.lent on.here a n one m k j) a n (moved_kept wd c G on.lent on.here a n one m k j)
    went_kept one (as_it_is i c) g = unmoved_kept c
    went_kept one (no_way i) g = absurd (omega (arith, g))

    -- so what any form of resize grants
    resizing_kept : {o : Outcome} {d : Done} → (1 ≤ n → Went (shape w) b a n L o d) → (r : Outcome) (M : Layout) → r ≡ sized (shape w) n b o → r.refusal ≡ 0 → HereIn (shape w) r.heap M → ResizeKept (shape w) b a n L r M
    resizing_kept {o} {d} x r M e g then =
        let s = granted_size (shape w) b n o r e g in
        let left = does_same wd b L l h r o d s.1 (went_does wd b L l h s.0 (x s.0)) in
        subst (λ (N : Layout). ResizeKept (shape w) b a n L r N) (one_layout wd r.heap d.layout M left.here then)
        (subst (λ (y : Outcome). ResizeKept (shape w) b a n L y d.layout) (sym s.1) (went_kept s.0 (x s.0) (sym (ap (λ (y : Outcome). y.refusal) s.1) ∙ g)))

  pub resize_keeps : ResizeKeeps (shape w) resizing
  unfolding Comes
  resize_keeps b a n r L M g = resizing_kept b a n L g.lent g.here (λ one. went (shape w) b a n L (finds wd b L g.here n one)) r M (g.comes.sound g.lent L g.here) g.granted g.then

  pub each_way_keeps : (v : Way) → ResizeKeeps (shape w) (resizing_by v)
  unfolding Comes
  each_way_keeps v b a n r L M g =
      resizing_kept b a n L g.lent g.here (λ one. went_by (shape w) b a n L (finds wd b L g.here n one) v) r M (g.comes.sound g.lent L g.here) g.granted g.then

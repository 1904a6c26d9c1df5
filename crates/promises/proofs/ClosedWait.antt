-- A free item of a closed class is never handed out: it stays on its list, and no call but a sweep answers its address.
use Rattle.std.proofs.Common.{ℕ, ◌≤◌, ◌≡◌, refl, sym, ap, subst, ◌∙◌, List, ◌⊎◌, inl, inr, ⊎_elim, arith, length}
use Rattle.words.specs.Width.{Width}
use Rattle.model.specs.Shape.{shape, end_of}
use Rattle.model.specs.Layout.{Layout}
use Rattle.model.specs.Sound.{heap_of}
use Rattle.model.specs.Rules.{Found, block, thing, nothing, find}
use Rattle.model.specs.Live.{◌∈◌, Payload, live}
use Rattle.model.specs.Refusals.{not_live}
use Rattle.model.specs.Calls.{Outcome, sized, found, without}
use Rattle.model.specs.Promises.{Call, initialising, checking, allocating, freeing, resizing, resizing_by, sweeping, Comes, Waits, Grants, ResizeKept, ClosedWait}
use Rattle.model.proofs.Good.{shape_good}
use Rattle.model.proofs.lives.LiveFound.{is_there}
use Rattle.model.proofs.rules.OnLayouts.{Done, refuse, grant, doing}
use Rattle.model.proofs.rules.ResizeWays.{Went, went, went_by}
use Rattle.model.proofs.rules.Closed.{waits_dead, doing_waits}
use Rattle.sound.proofs.OneLayout.{one_layout}
use Rattle.promises.proofs.Cases.{granted_size}
use Rattle.promises.proofs.Answers.{finds}
use Rattle.promises.proofs.Doing.{does}
use Rattle.promises.proofs.FoundLive.{found_is_live}
use Rattle.promises.proofs.Places.{was_there}
use Rattle.promises.proofs.AllocateKept.{allocate_keeps}
use Rattle.promises.proofs.ResizeKept.{resize_keeps, each_way_keeps}

module _ {w : ℕ} (wd : Width w) where
  -- what a granted call answers is no address, or one where something is live
  abbrev LiveAt : Layout → ℕ → Type 0
  LiveAt M a = (x : Payload) × (x ∈ live (shape w) M) × (x.address ≡ a)

  module _ (b : List ℕ) (r : Outcome) (L M : Layout) where
    resized_live : {q : Call} (g : Grants (shape w) b q r L M) {a n : ℕ} {o : Outcome} {d : Done} → (1 ≤ n → Went (shape w) b a n L o d) → r ≡ sized (shape w) n b o → ResizeKept (shape w) b a n L r M → LiveAt M r.address
    resized_live g {a} {n} {o} x e k =
        let s = granted_size (shape w) b n o r e g.granted in
        let i = was_there (shape w) b a n L (x s.0) (sym (ap (λ (y : Outcome). y.refusal) s.1) ∙ g.granted) in
        let f = (found_is_live wd (end_of (length (heap_of (shape w) b))) L a g.here.here.valid).0 (λ z. omega (arith, i, ap is_there z)) in
        let y = k.2 f.0 f.1 f.2 in
        (y.0, y.1, y.2)

    answers_live : (q : Call) → (q ≡ sweeping → ⊥) → Grants (shape w) b q r L M → (r.address ≡ 0) ⊎ LiveAt M r.address
    unfolding Comes doing
    answers_live (initialising e) z g = absurd (omega (arith, g.granted, (does wd b L g.lent g.here (initialising e) r g.comes).refusal))
    answers_live checking z g = inl (does wd b L g.lent g.here checking r g.comes).address
    answers_live (allocating n) z g = let k = (allocate_keeps wd b n r L M g).2 in inr (k.0, k.1, k.2)
    answers_live (freeing a) z g = inl ((does wd b L g.lent g.here (freeing a) r g.comes).address ∙ go (find (shape w) a L))
      where
        go : (f : Found) → (found (shape w) f (refuse not_live L) (grant 0 (without (shape w) a L))).address ≡ 0
        go nothing = refl
        go (block t) = refl
        go (thing o c n) = refl
    answers_live (resizing a n) z g = inr (resized_live g (λ one. went (shape w) b a n L (finds wd b L g.here n one)) (g.comes.sound g.lent L g.here) (resize_keeps wd b a n r L M g))
    answers_live (resizing_by v a n) z g = inr (resized_live g (λ one. went_by (shape w) b a n L (finds wd b L g.here n one) v) (g.comes.sound g.lent L g.here) (each_way_keeps wd v b a n r L M g))
    answers_live sweeping z g = absurd (z refl)

  pub closed_wait : ClosedWait (shape w)
  closed_wait b q r L M g z c o closed h =
      let d = does wd b L g.lent g.here q r g.comes in
      let k : Waits c o M = subst (λ (N : Layout). Waits c o N) (one_layout wd r.heap (doing (shape w) (end_of (length b)) q L).layout M d.here g.then) (doing_waits (shape w) c o closed b q L (λ n one. finds wd b L g.here n one) z h) in
      (k, λ e. ⊎_elim (λ i. omega (arith, e, i, wd.least)) (λ y. waits_dead (shape w) (shape_good wd) g.then.here.valid c o k y.0 y.1 (y.2 ∙ e)) (answers_live b r L M q z g))

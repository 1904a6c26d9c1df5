-- Demand 3: of two fresh heaps, one in a longer buffer, both started at their furthest ends or both at the same end, the same run of allocations, frees and sweeps gives the same answers, as long as the one in the shorter never says "no room".
-- And of two heaps of one layout, in buffers of one length, the same run of any calls does.
use Rattle.std.proofs.Common.{ℕ, ◌≤◌, ◌≡◌, refl, sym, ap, subst, List, arith, length}
use Rattle.words.specs.Width.{Width}
use Rattle.model.specs.Shape.{shape, end_of}
use Rattle.model.specs.Layout.{Layout}
use Rattle.model.specs.Sound.{Valid}
use Rattle.model.specs.Rules.{fresh}
use Rattle.model.specs.Live.{◌∈◌}
use Rattle.model.specs.Refusals.{no_room}
use Rattle.model.specs.Promises.{Call, Any, Plain, AgreeFrom, LongerAgrees, SameStartAgrees, SameLayoutAgrees}
use Rattle.model.proofs.rules.OnLayouts.{doing}
use Rattle.model.proofs.rules.Twins.{TwinLayouts, SameDone, fresh_twins}
use Rattle.model.proofs.rules.TwinCalls.{doing_twins, doing_same}
use Rattle.promises.proofs.Opened.{opened_fresh}
use Rattle.promises.proofs.Runs.{lent_same, agree_as, runs_agree}

-- not "no room"
abbrev HasRoom : ℕ → Type 0
HasRoom k = k ≡ no_room → ⊥

module _ {w : ℕ} (wd : Width w) where
  module _ (Agree : ℕ → ℕ → ℕ → Layout → Layout → Type 0)
      (step : (q : Call) → Plain (shape w) q → (E F e : ℕ) (L M : Layout) → Valid (shape w) e L → Agree E F e L M → HasRoom (doing (shape w) E q L).refusal
      → SameDone (shape w) (λ K N. (e' : ℕ) → e ≤ e' → e' ≤ E → Agree E F e' K N) (doing (shape w) E q L) (doing (shape w) F q M)) where
    -- from two fresh heaps on
    agree_from : (b : List ℕ) (e : ℕ) (d : List ℕ) (f : ℕ) → (length b ≤ length d → Agree (end_of (length b)) (end_of (length d)) e (fresh (shape w) e) (fresh (shape w) f)) → AgreeFrom (shape w) b e d f
    agree_from b e d f begin r t x g y k le qs rs ts b' d' u v n =
        let p = opened_fresh wd b e r x g in
        let q = opened_fresh wd d f t y k in
        runs_agree wd (Plain (shape w)) HasRoom Agree step qs r.heap t.heap (fresh (shape w) e) (fresh (shape w) f) rs ts b' d' (lent_same wd b r.heap p.same p.lent) (lent_same wd d t.heap q.same q.lent) p.here q.here
        (agree_as wd (Plain (shape w)) HasRoom Agree step r.heap t.heap (ap end_of (sym p.same)) (ap end_of (sym q.same)) (sym p.end) (begin le)) u v
        (λ s i e. n s.address (subst (λ (z : ℕ). record { refusal = z; address = s.address } ∈ rs) e i))

  -- twins, the shorter of which fills its buffer
  abbrev Twinned : ℕ → ℕ → ℕ → Layout → Layout → Type 0
  Twinned E F e L M = (e ≡ E) × TwinLayouts (shape w) L M

  twinned_step : (q : Call) → Plain (shape w) q → (E F e : ℕ) (L M : Layout) → Valid (shape w) e L → Twinned E F e L M → HasRoom (doing (shape w) E q L).refusal
      → SameDone (shape w) (λ K N. (e' : ℕ) → e ≤ e' → e' ≤ E → Twinned E F e' K N) (doing (shape w) E q L) (doing (shape w) F q M)
  twinned_step q p E F e L M v a n =
      let s = doing_twins wd q p E F (subst (λ (z : ℕ). Valid (shape w) z L) a.0 v) a.1 n in
      record { refusal = s.refusal; address = s.address; layouts = λ e' lo hi. (omega (arith, lo, hi, a.0), s.layouts) }

  pub longer_agrees : LongerAgrees (shape w)
  longer_agrees b d = agree_from Twinned twinned_step b (end_of (length b)) d (end_of (length d)) (λ le. (refl, fresh_twins (shape w) (end_of (length b)) (end_of (length d)) (omega (arith, le))))

  -- the same layout in two buffers
  abbrev Same : ℕ → ℕ → ℕ → Layout → Layout → Type 0
  Same E F e L M = (E ≤ F) × (L ≡ M)

  same_step : (q : Call) → Plain (shape w) q → (E F e : ℕ) (L M : Layout) → Valid (shape w) e L → Same E F e L M → HasRoom (doing (shape w) E q L).refusal
      → SameDone (shape w) (λ K N. (e' : ℕ) → e ≤ e' → e' ≤ E → Same E F e' K N) (doing (shape w) E q L) (doing (shape w) F q M)
  same_step q p E F e L M v a n =
      let s = doing_same wd q p E F a.0 L n in
      subst (λ (N : Layout). SameDone (shape w) (λ K N. (e' : ℕ) → e ≤ e' → e' ≤ E → Same E F e' K N) (doing (shape w) E q L) (doing (shape w) F q N)) a.1
      (record { refusal = s.refusal; address = s.address; layouts = λ e' lo hi. (a.0, s.layouts) })

  pub same_start_agrees : SameStartAgrees (shape w)
  same_start_agrees b d e = agree_from Same same_step b e d e (λ le. (omega (arith, le), refl))

  -- the same layout in two buffers of one length: then a call is the same on both, whatever it answers
  abbrev Alike : ℕ → ℕ → ℕ → Layout → Layout → Type 0
  Alike E F e L M = (E ≡ F) × (L ≡ M)

  alike_step : (q : Call) → Any q → (E F e : ℕ) (L M : Layout) → Valid (shape w) e L → Alike E F e L M → Unit {0}
      → SameDone (shape w) (λ K N. (e' : ℕ) → e ≤ e' → e' ≤ E → Alike E F e' K N) (doing (shape w) E q L) (doing (shape w) F q M)
  alike_step q p E F e L M v a n = rw (sym a.0, sym a.1) (record { refusal = refl; address = refl; layouts = λ e' lo hi. (refl, refl) })

  pub same_layout_agrees : SameLayoutAgrees (shape w)
  same_layout_agrees b d L l e h k qs rs ts b' d' x y =
      runs_agree wd Any (λ n. Unit {0}) Alike alike_step qs b d L L rs ts b' d' l (lent_same wd b d e l) h k (ap end_of (sym e), refl) x y (λ t i. tt)

-- Allocate alters no payload, grants what was not live and holds n bytes, and makes nothing else live.
use Rattle.std.proofs.Common.{ℕ, ◌≤◌, ◌≡◌, sym, ap, subst, ◌∙◌, List, inl, inr, ⊎_elim, arith, length}
use Rattle.std.proofs.Math.Option.{some}
use Rattle.words.specs.Width.{Width}
use Rattle.model.specs.Shape.{shape, end_of}
use Rattle.model.specs.Layout.{Layout}
use Rattle.model.specs.Sound.{HereIn}
use Rattle.model.specs.Rules.{Made, allocate}
use Rattle.model.specs.Live.{Payload}
use Rattle.model.specs.Calls.{Outcome, granted, Lent, in_buffer, drawn, growing, sized, allocated}
use Rattle.model.specs.Promises.{AllocateKept, Comes, AllocateKeeps}
use Rattle.model.proofs.Good.{shape_good}
use Rattle.model.proofs.lives.Payloads.{content_kept}
use Rattle.model.proofs.rules.Allocation.{Granted, allocate_grants}
use Rattle.model.proofs.rules.OnLayouts.{Done}
use Rattle.model.proofs.rules.Ready.{Runs, none_fits, ran_on, runs, RunsOn, ready_runs}
use Rattle.sound.proofs.OneLayout.{one_layout}
use Rattle.promises.proofs.Cases.{granted_size}
use Rattle.promises.proofs.Heaps.{draws, drew}
use Rattle.promises.proofs.Answers.{finds, lifted}
use Rattle.promises.proofs.Lifting.{allocate_in}

module _ {w : ℕ} (wd : Width w) where
  -- what a granted allocation made, and where it ran
  pub record MadeOf (b : List ℕ) (n : ℕ) (L : Layout) (r : Outcome) : Type 0 where
    pub some_byte : 1 ≤ n
    pub bytes : List ℕ
    pub layout : Layout
    pub on : RunsOn wd b L bytes layout
    pub made : Made
    pub found : allocate (shape w) n layout ≡ some made
    pub is : r ≡ in_buffer b (granted made.at (drawn (shape w) made.layout bytes))

  pub made_of : (b : List ℕ) (n : ℕ) (L : Layout) (r : Outcome) → Lent (shape w) b → HereIn (shape w) b L → r ≡ sized (shape w) n b (growing (shape w) n b (λ c. allocated (shape w) c n) L) → r.refusal ≡ 0 → MadeOf b n L r
  made_of b n L r l h e g =
      let s = granted_size (shape w) b n (growing (shape w) n b (λ c. allocated (shape w) c n) L) r e g in
      go s.0 (runs (shape w) b n L (finds wd b L h n s.0) (λ c M m. drawn (shape w) m.layout c) (λ m. m.layout)) s.1
    where
      go : 1 ≤ n → {o : Outcome} {d : Done} → Runs (shape w) b n L (λ c M m. drawn (shape w) m.layout c) (λ m. m.layout) o d → r ≡ o → MadeOf b n L r
      go one (none_fits f k) i = absurd (omega (arith, g, ap (λ (x : Outcome). x.refusal) i))
      go one (ran_on c M y m k) i = record { some_byte = one; bytes = c; layout = M; on = ready_runs wd b L l h n one y; made = m; found = k; is = i }

  granted_kept : (b : List ℕ) (n : ℕ) (L : Layout) (m : Made) → Granted (shape w) (end_of (length b)) n L m → AllocateKept (shape w) b n L (granted m.at (drawn (shape w) m.layout b)) m.layout
  granted_kept b n L m k = (
    (λ x h. ((k.adds.kept x h, content_kept (shape w) (end_of (length b)) m.layout b k.valid x (k.adds.kept x h)), λ e. k.adds.new x h (e ∙ sym k.at))),
    (λ x h. ⊎_elim (λ i. inl i) (λ e. inr (ap (λ (y : Payload). y.address) e ∙ k.at)) (k.adds.only x h)),
    (k.payload, k.adds.there, k.at, k.large),
  )

  pub allocate_keeps : AllocateKeeps (shape w)
  unfolding Comes
  allocate_keeps b n r L N g =
      let a = made_of b n L r g.lent g.here (g.comes.sound g.lent L g.here) g.granted in
      let on = a.on in
      let m = a.made in
      let k = allocate_grants (shape w) (end_of (length a.bytes)) n (shape_good wd) a.some_byte a.layout m on.here.valid a.found in
      let there = draws wd a.bytes a.layout on.lent on.here m.layout k.valid in
      let kept = allocate_in wd on (granted m.at (drawn (shape w) m.layout a.bytes)) m.layout there n (granted_kept a.bytes n a.layout m k) in
      let stands = (lifted wd b L g.lent g.here on _ _ (drew wd a.bytes a.layout on.lent on.here m.at m.layout k.valid)).here in
      let h : HereIn (shape w) r.heap m.layout = subst (λ (o : Outcome). HereIn (shape w) o.heap m.layout) (sym a.is) stands in
      subst (λ (K : Layout). AllocateKept (shape w) b n L r K) (one_layout wd r.heap m.layout N h g.then)
      (subst (λ (o : Outcome). AllocateKept (shape w) b n L o m.layout) (sym a.is) kept)

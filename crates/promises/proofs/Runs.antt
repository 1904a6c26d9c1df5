-- A run of calls: its first call and the rest; what any run keeps of a heap; and of two heaps that agree at each step the answers are the same.
use Rattle.std.proofs.Common.{ℕ, ◌≤◌, ◌<◌, ◌≡◌, refl, sym, ap, ap₂, subst, ◌∙◌, List, [], ◌∷◌, inl, inr, arith, length, get_or}
use Rattle.words.specs.Width.{Width}
use Rattle.model.specs.Shape.{shape, end_of}
use Rattle.model.specs.Parts.{magic_bytes}
use Rattle.model.specs.Layout.{Layout}
use Rattle.model.specs.Sound.{Valid, stored_end, heap_of, HereIn}
use Rattle.model.specs.Live.{◌∈◌}
use Rattle.model.specs.Calls.{Outcome, Lent}
use Rattle.model.specs.Promises.{Call, Reply, replied, Comes, Written, Run, over, call}
use Rattle.model.proofs.lives.Payloads.{in_area}
use Rattle.model.proofs.pictures.Written.{written_end, written_here}
use Rattle.model.proofs.pictures.Fronts.{own_start, own_ends}
use Rattle.model.proofs.rules.OnLayouts.{doing}
use Rattle.model.proofs.rules.Twins.{SameDone}
use Rattle.promises.proofs.Doing.{does}

module _ {w : ℕ} (wd : Width w) where
  -- a buffer of the same length is lent as well
  pub lent_same : (b d : List ℕ) → length d ≡ length b → Lent (shape w) b → Lent (shape w) d
  lent_same b d e l = (omega (arith, e, l.0), omega (arith, e, l.1))

  -- the magic number is in no live payload, and before the end
  pub written_magic : (b d : List ℕ) (L : Layout) → HereIn (shape w) b L → Written (shape w) b d → (i : ℕ) → i < magic_bytes → get_or d i 0 ≡ get_or b i 0
  written_magic b d L h x i m =
      x.1 L h i (omega (arith, m, own_start (shape w) b L h)) (λ y k lo hi. omega (arith, m, lo, (in_area (shape w) (end_of (length (heap_of (shape w) b))) L h.here.valid y k).0))

  -- what any run keeps
  pub record Ran (b c : List ℕ) : Type 0 where
    pub lent : Lent (shape w) c
    pub magic : (i : ℕ) → i < magic_bytes → get_or c i 0 ≡ get_or b i 0

module _ {w : ℕ} (wd : Width w) (May : Call → Type 0) where
  -- the first call of a run, and the rest
  pub record First (b : List ℕ) (q : Call) (qs : List Call) (rs : List Reply) (c : List ℕ) : Type 0 where
    pub heap : List ℕ
    pub outcome : Outcome
    pub later : List Reply
    pub written : Written (shape w) b heap
    pub may : May q
    pub comes : Comes (shape w) heap q outcome
    pub rest : Run (shape w) May outcome.heap qs later c
    pub is : rs ≡ replied outcome ∷ later

  unfoldable pub Parted : List ℕ → List Call → List Reply → List ℕ → Type 0
  Parted b [] rs c = (rs ≡ []) × (c ≡ b)
  Parted b (q ∷ qs) rs c = First b q qs rs c

  pub parted : {b : List ℕ} {qs : List Call} {rs : List Reply} {c : List ℕ} → Run (shape w) May b qs rs c → Parted b qs rs c
  unfolding Parted
  parted over = (refl, refl)
  parted (call d {q} {qs} {r} {rs} d-written m c run) = record { heap = d; outcome = r; later = rs; written = d-written; may = m; comes = c; rest = run; is = refl }

  -- THE LAW of any run
  pub ran : (qs : List Call) (b : List ℕ) (L : Layout) (rs : List Reply) (c : List ℕ) → Lent (shape w) b → HereIn (shape w) b L → Run (shape w) May b qs rs c → Ran wd b c
  unfolding Parted
  ran [] b L rs c l h x = let e : (rs ≡ []) × (c ≡ b) = parted x in subst (λ (d : List ℕ). Ran wd b d) (sym e.1) (record { lent = l; magic = λ i m. refl })
  ran (q ∷ qs) b L rs c l h x = go (parted x) (ran qs)
    where
      go : First b q qs rs c → ((b : List ℕ) (L : Layout) (rs : List Reply) (c : List ℕ) → Lent (shape w) b → HereIn (shape w) b L → Run (shape w) May b qs rs c → Ran wd b c) → Ran wd b c
      go u later =
          let lu = lent_same wd b u.heap u.written.0 l in
          let d = does wd u.heap L lu (written_here (shape w) b u.heap L h u.written) q u.outcome u.comes in
          let r = later u.outcome.heap _ u.later c (lent_same wd u.heap u.outcome.heap d.same lu) d.here u.rest in
          record { lent = r.lent; magic = λ i m. r.magic i m ∙ d.magic i m ∙ written_magic wd b u.heap L h u.written i m }

-- two heaps that agree answer a call the same and agree again, where the answer of the first is fine; E and F are their buffers' furthest ends, and the first heap ends at e
module _ {w : ℕ} (wd : Width w) (May : Call → Type 0) (Fine : ℕ → Type 0) (Agree : ℕ → ℕ → ℕ → Layout → Layout → Type 0)
    (step : (q : Call) → May q → (E F e : ℕ) (L M : Layout) → Valid (shape w) e L → Agree E F e L M → Fine (doing (shape w) E q L).refusal
    → SameDone (shape w) (λ K N. (e' : ℕ) → e ≤ e' → e' ≤ E → Agree E F e' K N) (doing (shape w) E q L) (doing (shape w) F q M)) where
  abbrev pub AgreeIn : List ℕ → List ℕ → Layout → Layout → Type 0
  AgreeIn b d L M = Agree (end_of (length b)) (end_of (length d)) (stored_end (shape w) b) L M

  abbrev pub AllFine : List Reply → Type 0
  AllFine rs = (t : Reply) → t ∈ rs → Fine t.refusal

  -- lengths and ends by their names
  pub agree_as : {E F e : ℕ} {L M : Layout} (b d : List ℕ) → E ≡ end_of (length b) → F ≡ end_of (length d) → e ≡ stored_end (shape w) b → Agree E F e L M → AgreeIn b d L M
  agree_as {E} {F} {e} {L} {M} b d x y z a =
      subst (λ (k : ℕ). Agree (end_of (length b)) (end_of (length d)) k L M) z (subst (λ (k : ℕ). Agree (end_of (length b)) k e L M) y (subst (λ (k : ℕ). Agree k F e L M) x a))

  pub runs_agree : (qs : List Call) (b d : List ℕ) (L M : Layout) (rs ts : List Reply) (b' d' : List ℕ) → Lent (shape w) b → Lent (shape w) d → HereIn (shape w) b L → HereIn (shape w) d M → AgreeIn b d L M
      → Run (shape w) May b qs rs b' → Run (shape w) May d qs ts d' → AllFine rs → rs ≡ ts
  unfolding Parted
  runs_agree [] b d L M rs ts b' d' l k h j agree x y n = let e : (rs ≡ []) × (b' ≡ b) = parted wd May x in let f : (ts ≡ []) × (d' ≡ d) = parted wd May y in e.0 ∙ sym f.0
  runs_agree (q ∷ qs) b d L M rs ts b' d' l k h j agree x y n = go (parted wd May x) (parted wd May y) (runs_agree qs)
    where
      go : First wd May b q qs rs b' → First wd May d q qs ts d'
          → ((b d : List ℕ) (L M : Layout) (rs ts : List Reply) (b' d' : List ℕ) → Lent (shape w) b → Lent (shape w) d → HereIn (shape w) b L → HereIn (shape w) d M → AgreeIn b d L M
          → Run (shape w) May b qs rs b' → Run (shape w) May d qs ts d' → AllFine rs → rs ≡ ts)
          → rs ≡ ts
      go u v later =
          let lu = lent_same wd b u.heap u.written.0 l in
          let lv = lent_same wd d v.heap v.written.0 k in
          let hu = written_here (shape w) b u.heap L h u.written in
          let a = does wd u.heap L lu hu q u.outcome u.comes in
          let c = does wd v.heap M lv (written_here (shape w) d v.heap M j v.written) q v.outcome v.comes in
          let m : AllFine (replied u.outcome ∷ u.later) = subst (λ (z : List Reply). AllFine z) u.is n in
          let E = end_of (length u.heap) in
          let F = end_of (length v.heap) in
          let e = stored_end (shape w) u.heap in
          let valid_there : Valid (shape w) e L = subst (λ (z : ℕ). Valid (shape w) z L) (own_ends (shape w) u.heap L hu) hu.here.valid in
          let agree-there : AgreeIn u.heap v.heap L M =
          agree_as u.heap v.heap (ap end_of (sym u.written.0)) (ap end_of (sym v.written.0)) (sym (written_end (shape w) b u.heap L h u.written)) agree in
          let s = step q u.may E F e L M valid_there agree-there (subst (λ (z : ℕ). Fine z) a.refusal (m (replied u.outcome) (unfold ◌∈◌ in inl refl))) in
          let same-e = ap end_of a.same in
          let next = s.layouts (stored_end (shape w) u.outcome.heap) a.rises (omega (arith, a.here.ended.1, same-e)) in
          let r = later u.outcome.heap v.outcome.heap _ _ u.later v.later b' d'
          (lent_same wd u.heap u.outcome.heap a.same lu) (lent_same wd v.heap v.outcome.heap c.same lv) a.here c.here
          (agree_as u.outcome.heap v.outcome.heap (sym same-e) (sym (ap end_of c.same)) refl next) u.rest v.rest
          (λ t i. m t (unfold ◌∈◌ in inr i)) in
          u.is
          ∙ ap₂ (λ (x : ℕ) (y : ℕ). record { refusal = x; address = y } ∷ u.later) (a.refusal ∙ s.refusal ∙ sym c.refusal) (a.address ∙ s.address ∙ sym c.address)
          ∙ ap (λ (z : List Reply). replied v.outcome ∷ z) r
          ∙ sym v.is

-- A sweep changes no live payload and makes nothing live or dead, gives back as many pages as it answers, and a second one changes nothing.
use Rattle.std.proofs.Common.{ℕ, ◌+◌, ◌≡◌, sym, ap, ap₂, subst, ◌∙◌, List, arith}
use Rattle.words.specs.Width.{Width}
use Rattle.model.specs.Shape.{shape}
use Rattle.model.specs.Layout.{Layout}
use Rattle.model.specs.Sound.{stored_end, heap_of, HereIn}
use Rattle.model.specs.Reading.{counted}
use Rattle.model.specs.Sweeping.{empties}
use Rattle.model.specs.Calls.{Outcome, granted, Lent, Sweeps, in_buffer, ordinary, swept_all}
use Rattle.model.specs.Promises.{sweeping, Comes, Grants, SweepKept, SweepKeeps, SweptStays, SweepCounts}
use Rattle.model.proofs.pictures.Fronts.{front_heap, fronted_own}
use Rattle.model.proofs.rules.OnLayouts.{swept_layout}
use Rattle.model.proofs.rules.Ready.{RunsOn, runs_own}
use Rattle.model.proofs.sweeps.Stages.{swept_live, swept_pages, swept_empties, swept_kept, swept_again}
use Rattle.sound.proofs.OneLayout.{one_layout}
use Rattle.promises.proofs.Stable.{outcomes}
use Rattle.promises.proofs.Cases.{granted_cases}
use Rattle.promises.proofs.Heaps.{Does, sweeping_done}
use Rattle.promises.proofs.Answers.{lifted}
use Rattle.promises.proofs.Lifting.{sweep_in}

module _ {w : ℕ} (wd : Width w) where
  -- what a sweep leaves of the heap's own bytes
  module _ (b : List ℕ) (L : Layout) (l : Lent (shape w) b) (h : HereIn (shape w) b L) where
    abbrev pub own : List ℕ
    own = heap_of (shape w) b

    pub on : RunsOn wd b L own L
    on = runs_own wd b L l h

    pub done : Does wd own L (swept_all (shape w) own L) (record { refusal = 0; address = empties L.blocks; layout = swept_layout (shape w) L })
    done = sweeping_done wd own L on.lent on.here

    own_kept : SweepKept (shape w) own L (swept_all (shape w) own L) (swept_layout (shape w) L)
    own_kept = (swept_live wd own L on.here on.lent.1, (λ x i. swept_kept wd own L on.here on.lent.1 x i))

    -- and so of the buffer
    pub leaves : HereIn (shape w) (ordinary (shape w) b (swept_all (shape w)) L).heap (swept_layout (shape w) L)
    leaves = (lifted wd b L l h on _ _ done).here

    keeps : SweepKept (shape w) b L (ordinary (shape w) b (swept_all (shape w)) L) (swept_layout (shape w) L)
    keeps = sweep_in wd on (swept_all (shape w) own L) (swept_layout (shape w) L) done.here own_kept

    -- a second sweep, of what the first one left
    again : (t : Outcome) → Sweeps (shape w) (ordinary (shape w) b (swept_all (shape w)) L).heap t → t ≡ granted 0 (ordinary (shape w) b (swept_all (shape w)) L).heap
    again t d =
        let c = (ordinary (shape w) b (swept_all (shape w)) L).heap in
        let left = lifted wd b L l h on _ _ done in
        let mine : heap_of (shape w) c ≡ (swept_all (shape w) own L).heap = front_heap (shape w) (swept_all (shape w) own L).heap b (swept_layout (shape w) L) done.here (rw done.same on.eight) in
        let s : swept_all (shape w) (heap_of (shape w) c) (swept_layout (shape w) L) ≡ granted 0 (heap_of (shape w) c) =
        ap (λ (y : List ℕ). swept_all (shape w) y (swept_layout (shape w) L)) mine
        ∙ ap₂ (λ (k : ℕ) (y : List ℕ). granted k y) (swept_empties wd own L on.here on.lent.1) (swept_again wd own L on.here on.lent.1)
        ∙ ap (λ (y : List ℕ). granted 0 y) (sym mine) in
        d.sound (omega (arith, left.same, l.0), omega (arith, left.same, l.1)) (swept_layout (shape w) L) leaves
        ∙ ap (λ (o : Outcome). in_buffer c o) s ∙ ap (λ (y : List ℕ). granted 0 y) (fronted_own (stored_end (shape w) c) c)

  -- what came of a sweep, and the layout that is then there
  module _ (b : List ℕ) (r : Outcome) (L M : Layout) (g : Grants (shape w) b sweeping r L M) where
    is : r ≡ ordinary (shape w) b (swept_all (shape w)) L
    unfolding Comes
    is = g.comes.sound g.lent L g.here

    left : swept_layout (shape w) L ≡ M
    left = one_layout wd r.heap (swept_layout (shape w) L) M (subst (λ (o : Outcome). HereIn (shape w) o.heap (swept_layout (shape w) L)) (sym is) (leaves b L g.lent g.here)) g.then

  pub sweep_keeps : SweepKeeps (shape w)
  sweep_keeps b r L M g =
      subst (λ (N : Layout). SweepKept (shape w) b L r N) (left b r L M g)
      (subst (λ (o : Outcome). SweepKept (shape w) b L o (swept_layout (shape w) L)) (sym (is b r L M g)) (keeps b L g.lent g.here))

  pub sweep_counts : SweepCounts (shape w)
  sweep_counts b r L M g =
      let n = ap (λ (o : Outcome). o.address) (is b r L M g) in
      let o = on b L g.lent g.here in
      (n, ap₂ (λ (N : Layout) (k : ℕ). (counted N.blocks).pages + k) (sym (left b r L M g)) n ∙ swept_pages wd (heap_of (shape w) b) L o.here o.lent.1)

  pub swept_stays : SweptStays (shape w)
  swept_stays b r t c z d =
      outcomes t (granted 0 r.heap)
      (granted_cases (shape w) b (ordinary (shape w) b (swept_all (shape w))) r c z
      (λ l L h e. subst (λ (o : Outcome). Sweeps (shape w) o.heap t → t ≡ granted 0 o.heap) (sym e) (again b L l h t) d))

-- Free alters no payload but its own, and makes that one dead and no other.
use Rattle.std.proofs.Common.{ℕ, ◌≡◌, refl, sym, ap, subst, ◌∙◌, List, ⊎_elim, arith, length}
use Rattle.words.specs.Width.{Width}
use Rattle.model.specs.Shape.{shape, end_of}
use Rattle.model.specs.Layout.{Layout}
use Rattle.model.specs.Sound.{heap_of, HereIn}
use Rattle.model.specs.Rules.{Found, block, thing, nothing, find, freed}
use Rattle.model.specs.Live.{◌∈◌, Payload, live}
use Rattle.model.specs.Refusals.{not_live}
use Rattle.model.specs.Calls.{Outcome, refused, granted, in_buffer, ordinary, drawn, found, freed_at}
use Rattle.model.specs.Promises.{FreeKept, Comes, FreeKeeps}
use Rattle.model.proofs.Good.{shape_good}
use Rattle.model.proofs.lives.Payloads.{content_kept}
use Rattle.sound.proofs.OneLayout.{one_layout}
use Rattle.model.proofs.rules.Ready.{RunsOn, runs_own}
use Rattle.promises.proofs.Heaps.{drew}
use Rattle.promises.proofs.Answers.{lifted}
use Rattle.promises.proofs.Lifting.{free_in}
use Rattle.model.proofs.lives.LiveFound.{is_there}
use Rattle.model.proofs.lives.FreeLives.{Removed, freed_removes}

module _ {w : ℕ} (wd : Width w) where
  module _ (b : List ℕ) (a : ℕ) (L : Layout) where
    removed_kept : (f : Found) → Removed (shape w) (end_of (length b)) L a f → FreeKept (shape w) b a L (granted 0 (drawn (shape w) (freed (shape w) f L) b)) (freed (shape w) f L)
    removed_kept f k = (
      (λ x h n.
          let i : x ∈ live (shape w) (freed (shape w) f L) = ⊎_elim (λ j. j) (λ e. absurd (n (ap (λ (y : Payload). y.address) e ∙ k.at))) (k.adds.only x h) in
          (i, content_kept (shape w) (end_of (length b)) (freed (shape w) f L) b k.valid x i)),
      (λ x h. (k.adds.kept x h, λ e. k.adds.new x h (e ∙ sym k.at))),
    )

  pub free_keeps : FreeKeeps (shape w)
  unfolding Comes
  free_keeps b a r L N g = go (find (shape w) a L) refl
    where
      on : RunsOn wd b L (heap_of (shape w) b) L
      on = runs_own wd b L g.lent g.here

      is : r ≡ found (shape w) (find (shape w) a L) (refused b not_live) (ordinary (shape w) b (freed_at (shape w) a) L)
      is = g.comes.sound g.lent L g.here

      freed_kept : (f : Found) → find (shape w) a L ≡ f → (f ≡ nothing → ⊥) → r ≡ in_buffer b (granted 0 (drawn (shape w) (freed (shape w) f L) (heap_of (shape w) b))) → FreeKept (shape w) b a L r N
      freed_kept f e n s =
          let M = freed (shape w) f L in
          let k = freed_removes (shape w) (shape_good wd) on.here.valid a f e n in
          let done = drew wd (heap_of (shape w) b) L on.lent on.here 0 M k.valid in
          let h : HereIn (shape w) r.heap M = subst (λ (o : Outcome). HereIn (shape w) o.heap M) (sym s) (lifted wd b L g.lent g.here on _ _ done).here in
          subst (λ (K : Layout). FreeKept (shape w) b a L r K) (one_layout wd r.heap M N h g.then)
          (subst (λ (o : Outcome). FreeKept (shape w) b a L o M) (sym s) (free_in wd on (granted 0 (drawn (shape w) M (heap_of (shape w) b))) M done.here a (removed_kept (heap_of (shape w) b) a L f k)))

      go : (f : Found) → find (shape w) a L ≡ f → FreeKept (shape w) b a L r N
      go nothing e = absurd (omega (arith, g.granted, ap (λ (o : Outcome). o.refusal) is, ap (λ (f : Found). (found (shape w) f (refused b not_live) (ordinary (shape w) b (freed_at (shape w) a) L)).refusal) e))
      go (block t) e = freed_kept (block t) e (λ k. omega (arith, ap is_there k)) (rw e at is)
      go (thing o c j) e = freed_kept (thing o c j) e (λ k. omega (arith, ap is_there k)) (rw e at is)

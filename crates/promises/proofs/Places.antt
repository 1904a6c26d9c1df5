-- Resized in place, a record keeps its address; a move never gives the old one.
use Rattle.std.proofs.Common.{ℕ, ◌≤◌, ◌≡◌, refl, sym, ap, ◌∙◌, List, arith}
use Rattle.std.proofs.Math.Option.{Option, none, some}
use Rattle.words.specs.Width.{Width}
use Rattle.model.specs.Shape.{Shape, shape}
use Rattle.model.specs.Layout.{Layout}
use Rattle.model.specs.Sound.{heap_of, HereIn}
use Rattle.model.specs.Rules.{find, stays}
use Rattle.model.specs.Calls.{Way, staying, moving, Outcome, Lent, sized, without, placed, moved_bytes, one_way, resized_by, ResizesBy}
use Rattle.model.specs.Promises.{InPlaceStays, MoveMoves}
use Rattle.model.proofs.lives.LiveFound.{is_there}
use Rattle.model.proofs.rules.OnLayouts.{Done}
use Rattle.model.proofs.rules.ResizeWays.{Went, nowhere, in_place, elsewhere, as_it_is, no_way, went_by, by_there}
use Rattle.model.proofs.rules.Ready.{Runs, none_fits, ran_on, runs, ready_runs}
use Rattle.promises.proofs.Stable.{numbers}
use Rattle.promises.proofs.Cases.{granted_cases, granted_size}
use Rattle.promises.proofs.Answers.{finds}
use Rattle.promises.proofs.Doing.{there_too}
use Rattle.promises.proofs.Moved.{moved_away}

module _ (S : Shape) (b : List ℕ) (a n : ℕ) where
  -- what is granted was live
  pub was_there : (L : Layout) {o : Outcome} {d : Done} → Went S b a n L o d → o.refusal ≡ 0 → is_there (find S a L) ≡ 1
  was_there L (nowhere e) g = absurd (omega (arith, g))
  was_there L (in_place i M s) g = i
  was_there L (elsewhere i c G r m k) g = i
  was_there L (as_it_is i c) g = i
  was_there L (no_way i) g = i

module _ {w : ℕ} (wd : Width w) (b : List ℕ) (a n : ℕ) where
  -- a way that is granted, by the way itself
  by_granted : {P : Type 0} (v : Way) (r : Outcome) → ResizesBy (shape w) v b a n r → r.refusal ≡ 0
      → (Lent (shape w) b → (L : Layout) → HereIn (shape w) b L → 1 ≤ n → is_there (find (shape w) a L) ≡ 1 → r ≡ one_way (shape w) v b a n L → P) → (P → ⊥) → ⊥
  by_granted v r c g f =
      granted_cases (shape w) b (λ L. sized (shape w) n b (resized_by (shape w) v b a n L)) r c g
      (λ l L h e.
      let s = granted_size (shape w) b n (resized_by (shape w) v b a n L) r e g in
      let i = was_there (shape w) b a n L (went_by (shape w) b a n L (finds wd b L h n s.0) v) (sym (ap (λ (o : Outcome). o.refusal) s.1) ∙ g) in
      f l L h s.0 i (s.1 ∙ by_there (shape w) b a n L v i))

module _ {w : ℕ} (wd : Width w) where
  pub in_place_stays : InPlaceStays (shape w)
  in_place_stays b a n r c g =
      numbers r.address a (by_granted wd b a n staying r c g (λ l L h one i e. ap (λ (o : Outcome). o.address) e ∙ go (stays (shape w) n (find (shape w) a L) L) (sym (ap (λ (o : Outcome). o.refusal) e) ∙ g)))
    where
      go : (o : Option Layout) → (placed (shape w) (heap_of (shape w) b) a o).refusal ≡ 0 → (placed (shape w) (heap_of (shape w) b) a o).address ≡ a
      go none k = absurd (omega (arith, k))
      go (some M) k = refl

  pub move_moves : MoveMoves (shape w)
  move_moves b a n r c g at =
      by_granted wd b a n moving r c g
      (λ l L h one i e. go l L h one i (runs (shape w) b n L (finds wd b L h n one) (λ d. moved_bytes (shape w) d a n) (λ m. without (shape w) a m.layout)) (sym (ap (λ (o : Outcome). o.refusal) e) ∙ g) (sym (ap (λ (o : Outcome). o.address) e) ∙ at))
      (λ x. x)
    where
      go : Lent (shape w) b → (L : Layout) → HereIn (shape w) b L → 1 ≤ n → is_there (find (shape w) a L) ≡ 1
          → {o : Outcome} {d : Done} → Runs (shape w) b n L (λ d. moved_bytes (shape w) d a n) (λ m. without (shape w) a m.layout) o d → o.refusal ≡ 0 → o.address ≡ a → ⊥
      go l L h one i (none_fits e k) z at = omega (arith, z)
      go l L h one i (ran_on c M y m k) z at = let on = ready_runs wd b L l h n one y in moved_away wd c M on.lent on.here a n one m k (there_too wd b L h on a i) at

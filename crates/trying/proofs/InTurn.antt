-- Each way through the call gives what resize gives: by the law of the split, where the ways that were not tried do not count.
use Rattle.std.proofs.Common.{ℕ, ◌≡◌, refl, sym, subst, ◌∙◌, true, false, List, arith, eqb-true, eq-eqb, Ok, Err}
use Rattle.std.proofs.Math.Bool.{false≢true}
use Rattle.words.specs.Width.{Width}
use Rattle.model.specs.Shape.{shape}
use Rattle.model.specs.Refusals.{no_room}
use Rattle.model.specs.Calls.{Outcome, or_next, ResizesInPlace, Moves, Keeps, Resizes}
use Rattle.model.proofs.rules.ResizeWays.{split_gives}
use Rattle.model.specs.Refused.{refusal_number}
use Rattle.serving.specs.Answers.{Answer, outcome}
use Rattle.serving.proofs.Outcomes.{heap_of_lem}
use Rattle.trying.specs.Trying.{is_no_room}

-- what an answer says
six : (r : Answer) (c : List ℕ) → is_no_room r ≡ true → (outcome r c).refusal ≡ no_room
six (Ok a) c e = absurd (false≢true e)
six (Err k) c e = eqb-true (refusal_number k) no_room e

not_six : (r : Answer) (c : List ℕ) → is_no_room r ≡ false → (outcome r c).refusal ≡ no_room → ⊥
not_six (Ok a) c e f = omega (arith, f)
not_six (Err k) c e f = false≢true (sym e ∙ eq-eqb (refusal_number k) no_room f)

-- so the next one is taken, or not
goes_on : (r : Answer) (c : List ℕ) (next : Outcome) → is_no_room r ≡ true → or_next (outcome r c) next ≡ next
goes_on r c next e = rw (eq-eqb (outcome r c).refusal no_room (six r c e)) refl

stops : (r : Answer) (c : List ℕ) (next : Outcome) → is_no_room r ≡ false → or_next (outcome r c) next ≡ outcome r c
stops (Ok a) c next e = refl
stops (Err k) c next e = rw e refl

module _ {w : ℕ} (wd : Width w) (b : List ℕ) (a n : ℕ) (r : Answer) (c : List ℕ) (p : ResizesInPlace (shape w) b a n (outcome r c)) where
  pub first_gives : is_no_room r ≡ false → Resizes (shape w) b a n (outcome r c)
  first_gives e =
      let o = outcome r c in
      subst (λ (x : Outcome). Resizes (shape w) b a n x) (stops r c (or_next o o) e)
      (split_gives wd b a n o o o p (λ f. absurd (not_six r c e f)) (λ f. absurd (not_six r c e f)))

  module _ (e : is_no_room r ≡ true) (s : Answer) (d : List ℕ) (q : Moves (shape w) c a n (outcome s d)) where
    second : Moves (shape w) (outcome r c).heap a n (outcome s d)
    second = subst (λ (x : List ℕ). Moves (shape w) x a n (outcome s d)) (sym (heap_of_lem r c)) q

    pub second_gives : is_no_room s ≡ false → Resizes (shape w) b a n (outcome s d)
    second_gives f =
        let o = outcome s d in
        subst (λ (x : Outcome). Resizes (shape w) b a n x) (goes_on r c (or_next o o) e ∙ stops s d o f)
        (split_gives wd b a n (outcome r c) o o p (λ _. second) (λ _ g. absurd (not_six s d f g)))

    pub third_gives : is_no_room s ≡ true → (t : Answer) → Keeps (shape w) d a n (outcome t d) → Resizes (shape w) b a n (outcome t d)
    third_gives f t k =
        let o = outcome t d in
        subst (λ (x : Outcome). Resizes (shape w) b a n x) (goes_on r c (or_next (outcome s d) o) e ∙ goes_on s d o f)
        (split_gives wd b a n (outcome r c) (outcome s d) o p (λ _. second) (λ _ _. subst (λ (x : List ℕ). Keeps (shape w) x a n o) (sym (heap_of_lem s d)) k))

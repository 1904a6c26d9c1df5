-- A refusal answers address 0 and leaves every byte as it was.
use Rattle.std.proofs.Common.{ℕ, ◌≤◌, ◌≡◌, refl, sym, ap, subst, ◌∙◌, List}
use Rattle.words.specs.Width.{Width}
use Rattle.model.specs.Shape.{Shape, shape}
use Rattle.model.specs.Layout.{Layout}
use Rattle.model.specs.Sound.{HereIn}
use Rattle.model.specs.Rules.{Made, Found, block, thing, nothing, find}
use Rattle.model.specs.Refusals.{bad_length, not_opened, not_sound, not_live, already_opened, bad_end}
use Rattle.model.specs.Calls.{Outcome, refused, granted, Lent, GoodSize, Checked, drawn, sized, found, ordinary, freed_at, swept_all, resized, resized_by, Initialises}
use Rattle.model.specs.Promises.{initialising, checking, allocating, freeing, resizing, resizing_by, sweeping, Comes, RefusedUntouched}
use Rattle.model.proofs.rules.Sized.{good, bad, good_or_bad}
use Rattle.model.proofs.rules.OnLayouts.{Done}
use Rattle.model.proofs.rules.Ready.{Runs, none_fits, ran_on, runs}
use Rattle.model.proofs.rules.ResizeWays.{Went, went, went_by, went_plain}
use Rattle.promises.proofs.Stable.{outcomes}
use Rattle.promises.proofs.Cases.{checked_cases, opening_cases}
use Rattle.promises.proofs.Answers.{finds}

module _ (b : List ℕ) where
  -- an outcome that is granted, or a plain refusal
  abbrev Plainly : Outcome → Type 0
  Plainly o = (o.refusal ≡ 0 → ⊥) → o ≡ refused b o.refusal

  as_refused : (r : Outcome) (k : ℕ) → r ≡ refused b k → Plainly r
  as_refused r k e n = e ∙ ap (refused b) (sym (ap (λ (o : Outcome). o.refusal) e))

  as_granted : (a : ℕ) (h : List ℕ) → Plainly (granted a h)
  as_granted a h n = absurd (n refl)

  as_same : (r o : Outcome) → r ≡ o → Plainly o → Plainly r
  as_same r o e p = subst (λ (x : Outcome). Plainly x) (sym e) p

  module _ (S : Shape) where
    sized_plain : (n : ℕ) (o : Outcome) → (1 ≤ n → Plainly o) → Plainly (sized S n b o)
    sized_plain n o p = go (good_or_bad S n)
      where
        go : Dec (GoodSize S n) → Plainly (sized S n b o)
        go (yes g) = rw (good S n g) (p g.0)
        go (no g) = rw (bad S n g) (λ z. refl)

    found_plain : (f : Found) (o : Outcome) → Plainly o → Plainly (found S f (refused b not_live) o)
    found_plain (block t) o p = p
    found_plain (thing x c k) o p = p
    found_plain nothing o p = λ n. refl

    ran_plain : {n : ℕ} {L : Layout} {bytes : List ℕ → Layout → Made → List ℕ} {then : Made → Layout} {o : Outcome} {d : Done} → Runs S b n L bytes then o d → Plainly o
    ran_plain (none_fits e l) = λ z. refl
    ran_plain (ran_on c M r m k) = as_granted _ _

    checked_plain : (rule : Layout → Outcome) → (Lent S b → (L : Layout) → HereIn S b L → Plainly (rule L)) → (r : Outcome) → Checked S b (refused b) rule r → Plainly r
    checked_plain rule p r c n =
        outcomes r (refused b r.refusal)
        (checked_cases S b (λ m. as_refused r bad_length (c.one m) n) (λ l m. as_refused r not_opened (c.two l m) n) (λ l o m. as_refused r not_sound (c.three l o m) n) (λ l L h. as_same r (rule L) (c.sound l L h) (p l L h) n))

    -- a resize of any form
    resizing_plain : (a n : ℕ) (rule : Layout → Outcome) {on : Layout → Done} → ((L : Layout) → HereIn S b L → 1 ≤ n → Went S b a n L (rule L) (on L)) → (r : Outcome) → Checked S b (refused b) (λ L. sized S n b (rule L)) r → Plainly r
    resizing_plain a n rule x r c = checked_plain (λ L. sized S n b (rule L)) (λ l L h. sized_plain n (rule L) (λ one. went_plain S b a n L (x L h one))) r c

    opened_plain : (e : ℕ) (r : Outcome) → Initialises S b e r → Plainly r
    opened_plain e r c n =
        outcomes r (refused b r.refusal)
        (opening_cases S b e (λ m. as_refused r bad_length (c.one m) n) (λ l o. as_refused r already_opened (c.seven l o) n) (λ l m k. as_refused r bad_end (c.eight l m k) n) (λ l m k. as_same r _ (c.opens l m k) (as_granted 0 _) n))

module _ {w : ℕ} (wd : Width w) where
  pub refused_untouched : RefusedUntouched (shape w)
  unfolding Comes
  refused_untouched b (initialising e) r c = opened_plain b (shape w) e r c
  refused_untouched b checking r c = checked_plain b (shape w) (λ L. granted 0 b) (λ l L h. as_granted b 0 b) r c
  refused_untouched b (allocating n) r c =
      checked_plain b (shape w) _ (λ l L h. sized_plain b (shape w) n _ (λ one. ran_plain b (shape w) (runs (shape w) b n L (finds wd b L h n one) (λ d M m. drawn (shape w) m.layout d) (λ m. m.layout)))) r c
  refused_untouched b (freeing a) r c = checked_plain b (shape w) _ (λ l L h. found_plain b (shape w) (find (shape w) a L) (ordinary (shape w) b (freed_at (shape w) a) L) (as_granted b 0 _)) r c
  refused_untouched b (resizing a n) r c = resizing_plain b (shape w) a n (resized (shape w) b a n) (λ L h one. went (shape w) b a n L (finds wd b L h n one)) r c
  refused_untouched b (resizing_by v a n) r c = resizing_plain b (shape w) a n (resized_by (shape w) v b a n) (λ L h one. went_by (shape w) b a n L (finds wd b L h n one) v) r c
  refused_untouched b sweeping r c = checked_plain b (shape w) (ordinary (shape w) b (swept_all (shape w))) (λ l L h. as_granted b _ _) r c

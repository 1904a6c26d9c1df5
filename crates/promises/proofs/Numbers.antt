-- Which numbers a call can answer at all.
use Rattle.std.proofs.Common.{ℕ, ◌≤◌, ◌≡◌, refl, ap, sym, subst, Bool, true, false, cond, List, [], ◌∷◌, ◌⊎◌, inl, inr, ⊎_elim, eqb, ne_eqb}
use Rattle.std.proofs.Math.Bool.{false≢true}
use Rattle.std.proofs.Math.Decide.{ℕ_discrete}
use Rattle.words.specs.Width.{Width}
use Rattle.model.specs.Shape.{Shape, shape}
use Rattle.model.specs.Layout.{Layout}
use Rattle.model.specs.Sound.{HereIn}
use Rattle.model.specs.Rules.{Made, Found, block, thing, nothing, find}
use Rattle.model.specs.Reading.{counted, table, looked_up, ended, step}
use Rattle.model.specs.Live.{◌∈◌}
use Rattle.model.specs.Refusals.{bad_length, not_opened, not_sound, bad_size, not_live, no_room, already_opened, bad_end}
use Rattle.model.specs.Calls.{Outcome, Told, refused, granted, GoodSize, Checked, sized, found, drawn, ordinary, freed_at, swept_all, resized, resized_by}
use Rattle.model.specs.Promises.{initialising, checking, allocating, freeing, resizing, resizing_by, sweeping, numbers_of, reading_numbers, look_up_numbers, Comes, AnswersOnly, ReadingAnswersOnly}
use Rattle.model.proofs.rules.Sized.{good, bad, good_or_bad}
use Rattle.model.proofs.rules.OnLayouts.{Done}
use Rattle.model.proofs.rules.Ready.{Runs, none_fits, ran_on, runs}
use Rattle.model.proofs.rules.ResizeWays.{Went, nowhere, in_place, elsewhere, as_it_is, no_way, went, went_by}
use Rattle.promises.proofs.Cases.{checked_cases, opening_cases}
use Rattle.promises.proofs.Answers.{finds}

-- a number that cannot be missing from a list stands in it
sure_in : (x : ℕ) (l : List ℕ) → ((x ∈ l → ⊥) → ⊥) → x ∈ l
unfolding ◌∈◌
sure_in x [] n = absurd (n (λ h. h))
sure_in x (y ∷ l) n = go (ℕ_discrete x y) (sure_in x l)
  where
    go : Dec (x ≡ y) → (((x ∈ l → ⊥) → ⊥) → x ∈ l) → (x ≡ y) ⊎ (x ∈ l)
    go (yes e) r = inl e
    go (no e) r = inr (r (λ m. n (λ h. ⊎_elim e m h)))

-- whether a number stands in a list, to be computed
unfoldable is_in : ℕ → List ℕ → Bool
is_in x [] = false
is_in x (y ∷ l) = cond (eqb x y) true (is_in x l)

stands : (x : ℕ) (l : List ℕ) → is_in x l ≡ true → x ∈ l
unfolding ◌∈◌ is_in
stands x [] h = absurd (false≢true h)
stands x (y ∷ l) h = go (ℕ_discrete x y) (stands x l)
  where
    go : Dec (x ≡ y) → (is_in x l ≡ true → x ∈ l) → (x ≡ y) ⊎ (x ∈ l)
    go (yes e) r = inl e
    go (no n) r = inr (r (rw (ne_eqb x y n) at h))

module _ (S : Shape) (b : List ℕ) (l : List ℕ) where
  sized_in : (n : ℕ) (o : Outcome) → bad_size ∈ l → (1 ≤ n → o.refusal ∈ l) → (sized S n b o).refusal ∈ l
  sized_in n o bad-in h = go (good_or_bad S n)
    where
      go : Dec (GoodSize S n) → (sized S n b o).refusal ∈ l
      go (yes g) = rw (good S n g) (h g.0)
      go (no g) = rw (bad S n g) bad-in

  found_in : {A : Type 0} (number : A → ℕ) (f : Found) (else next : A) → number else ∈ l → number next ∈ l → number (found S f else next) ∈ l
  found_in number (block t) else next e h = h
  found_in number (thing o c k) else next e h = h
  found_in number nothing else next e h = e

  ran_in : {n : ℕ} {L : Layout} {bytes : List ℕ → Layout → Made → List ℕ} {then : Made → Layout} {o : Outcome} {d : Done} → Runs S b n L bytes then o d → 0 ∈ l → no_room ∈ l → o.refusal ∈ l
  ran_in (none_fits e k) z h = h
  ran_in (ran_on c M r m k) z h = z

  went_in : {a n : ℕ} {L : Layout} {o : Outcome} {d : Done} → Went S b a n L o d → 0 ∈ l → not_live ∈ l → no_room ∈ l → o.refusal ∈ l
  went_in (nowhere e) z d h = d
  went_in (in_place i M s) z d h = z
  went_in (elsewhere i c G r m k) z d h = z
  went_in (as_it_is i c) z d h = z
  went_in (no_way i) z d h = h

  -- what is equal to something with a number in the list has one
  same_in : {A : Type 0} (number : A → ℕ) {r o : A} → r ≡ o → number o ∈ l → number r ∈ l
  same_in number e h = subst (λ (x : ℕ). x ∈ l) (sym (ap number e)) h

  checked_in : {A : Type 0} (number : A → ℕ) (no-with : ℕ → A) → ((k : ℕ) → number (no-with k) ≡ k) → bad_length ∈ l → not_opened ∈ l → not_sound ∈ l
      → (rule : Layout → A) → ((L : Layout) → HereIn S b L → number (rule L) ∈ l) → (r : A) → Checked S b no-with rule r → number r ∈ l
  checked_in number no-with is one two three rule h r c =
      sure_in (number r) l
      (checked_cases S b (λ m. same_in number (c.one m) (subst (λ (x : ℕ). x ∈ l) (sym (is bad_length)) one)) (λ x m. same_in number (c.two x m) (subst (λ (x : ℕ). x ∈ l) (sym (is not_opened)) two))
      (λ x o m. same_in number (c.three x o m) (subst (λ (x : ℕ). x ∈ l) (sym (is not_sound)) three)) (λ x L k. same_in number (c.sound x L k) (h L k)))

  refused_in : bad_length ∈ l → not_opened ∈ l → not_sound ∈ l → (rule : Layout → Outcome) → ((L : Layout) → HereIn S b L → (rule L).refusal ∈ l) → (r : Outcome) → Checked S b (refused b) rule r → r.refusal ∈ l
  refused_in = checked_in (λ o. o.refusal) (refused b) (λ k. refl)

  told_in : {A : Type 0} (none-with : A) → bad_length ∈ l → not_opened ∈ l → not_sound ∈ l
      → (rule : Layout → Told A) → ((L : Layout) → HereIn S b L → (rule L).refusal ∈ l) → (r : Told A) → Checked S b (λ k. record { refusal = k; answer = none-with }) rule r → r.refusal ∈ l
  told_in none-with = checked_in (λ o. o.refusal) (λ k. record { refusal = k; answer = none-with }) (λ k. refl)

-- a resize of any form
resizing_only : (S : Shape) (b : List ℕ) (a n : ℕ) (rule : Layout → Outcome) {on : Layout → Done} → ((L : Layout) → HereIn S b L → 1 ≤ n → Went S b a n L (rule L) (on L))
    → (r : Outcome) → Checked S b (refused b) (λ L. sized S n b (rule L)) r → r.refusal ∈ numbers_of (resizing a n)
unfolding numbers_of is_in
resizing_only S b a n rule x r c =
    let l = numbers_of (resizing a n) in
    refused_in S b l (stands bad_length l refl) (stands not_opened l refl) (stands not_sound l refl) (λ L. sized S n b (rule L))
    (λ L h. sized_in S b l n (rule L) (stands bad_size l refl) (λ one. went_in S b l (x L h one) (stands 0 l refl) (stands not_live l refl) (stands no_room l refl)))
    r c

module _ {w : ℕ} (wd : Width w) where
  pub answers_only : AnswersOnly (shape w)
  unfolding Comes numbers_of is_in
  answers_only b (initialising e) r c =
      let l = numbers_of (initialising e) in
      let number : Outcome → ℕ = λ o. o.refusal in
      sure_in r.refusal l
      (opening_cases (shape w) b e (λ m. same_in (shape w) b l number (c.one m) (stands bad_length l refl)) (λ x o. same_in (shape w) b l number (c.seven x o) (stands already_opened l refl))
      (λ x m k. same_in (shape w) b l number (c.eight x m k) (stands bad_end l refl)) (λ x m k. same_in (shape w) b l number (c.opens x m k) (stands 0 l refl)))
  answers_only b checking r c =
      let l = numbers_of checking in
      refused_in (shape w) b l (stands bad_length l refl) (stands not_opened l refl) (stands not_sound l refl) (λ L. granted 0 b) (λ L h. stands 0 l refl) r c
  answers_only b (allocating n) r c =
      let l = numbers_of (allocating n) in
      refused_in (shape w) b l (stands bad_length l refl) (stands not_opened l refl) (stands not_sound l refl) _
      (λ L h. sized_in (shape w) b l n _ (stands bad_size l refl) (λ one. ran_in (shape w) b l (runs (shape w) b n L (finds wd b L h n one) (λ d M m. drawn (shape w) m.layout d) (λ m. m.layout)) (stands 0 l refl) (stands no_room l refl)))
      r c
  answers_only b (freeing a) r c =
      let l = numbers_of (freeing a) in
      refused_in (shape w) b l (stands bad_length l refl) (stands not_opened l refl) (stands not_sound l refl) _
      (λ L h. found_in (shape w) b l (λ (o : Outcome). o.refusal) (find (shape w) a L) (refused b not_live) (ordinary (shape w) b (freed_at (shape w) a) L) (stands not_live l refl) (stands 0 l refl))
      r c
  answers_only b (resizing a n) r c = resizing_only (shape w) b a n (resized (shape w) b a n) (λ L h one. went (shape w) b a n L (finds wd b L h n one)) r c
  answers_only b (resizing_by v a n) r c = resizing_only (shape w) b a n (resized_by (shape w) v b a n) (λ L h one. went_by (shape w) b a n L (finds wd b L h n one) v) r c
  answers_only b sweeping r c =
      let l = numbers_of sweeping in
      refused_in (shape w) b l (stands bad_length l refl) (stands not_opened l refl) (stands not_sound l refl) (ordinary (shape w) b (swept_all (shape w))) (λ L h. stands 0 l refl) r c

pub reading_answers_only : (S : Shape) → ReadingAnswersOnly S
unfolding is_in
reading_answers_only S b = (
  (λ a r c.
      let l = look_up_numbers in
      told_in S b l [] (stands bad_length l refl) (stands not_opened l refl) (stands not_sound l refl)
      (λ L. found S (find S a L) (record { refusal = not_live; answer = [] }) (record { refusal = 0; answer = looked_up S b a L }))
      (λ L h. found_in S b l (λ (o : Told (List ℕ)). o.refusal) (find S a L) (record { refusal = not_live; answer = [] }) (record { refusal = 0; answer = looked_up S b a L }) (stands not_live l refl) (stands 0 l refl)) r c),
  (λ w r c. reads (ended S w) (λ L. step S w L) r c),
  (λ r c. reads (counted []) (λ L. counted L.blocks) r c),
  (λ r c. reads (table S []) (λ L. table S L.blocks) r c),
)
  where
    reads : {A : Type 0} (none-with : A) (rule : Layout → A) (r : Told A)
        → Checked S b (λ k. record { refusal = k; answer = none-with }) (λ L. record { refusal = 0; answer = rule L }) r → r.refusal ∈ reading_numbers
    reads none-with rule r c =
        let l = reading_numbers in
        told_in S b l none-with (stands bad_length l refl) (stands not_opened l refl) (stands not_sound l refl) (λ L. record { refusal = 0; answer = rule L }) (λ L h. stands 0 l refl) r c

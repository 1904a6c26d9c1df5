-- What each way through the examination shows, and what follows from its answer for a call's contract.
use Rattle.std.specs.Prelude.{⊤, Result, Ok, Err}
use Rattle.std.proofs.Common.{ℕ, ◌-◌, ◌≤◌, ◌≡◌, refl, ap, sym, subst, ◌∙◌, Bool, true, false, ◌⊎◌, inl, inr, List, IsErrAnd, arith, length, take, length-take-le}
use Rattle.words.specs.Width.{Width}
use Rattle.words.specs.Word.{word_at}
use Rattle.model.specs.Shape.{shape}
use Rattle.model.specs.Layout.{Layout}
use Rattle.model.specs.Sound.{Here, Sound, MayEnd, stored_end, heap_of, HereIn, SoundIn}
use Rattle.model.specs.Refusals.{bad_size}
use Rattle.model.specs.Parts.{magic_bytes}
use Rattle.model.specs.Calls.{Outcome, refused, Lent, GoodSize, Checked, sized}
use Rattle.model.proofs.pictures.Fronts.{own_opened}
use Rattle.model.proofs.rules.Ready.{may_shortest}
use Rattle.model.proofs.rules.Sized.{good, bad}
use Rattle.telling.specs.Tells.{Tells}
use Rattle.telling.proofs.Tellings.{clash}
use Rattle.model.specs.declared.refusals.Refusal.{Refusal}
use Rattle.model.specs.declared.refusals.Refusal.TheVariants.{BadLength, NotOpened, NotSound, BadSize, NotLive, NoRoom, AlreadyOpened, BadEnd}
use Rattle.model.specs.Refused.{refusal_number}
use Rattle.examining.specs.Examined.{UnfitFor, Examined, Judged, ExaminedFor}

-- what `?` hands on is the same refusal
pub passed_on : {A : Type 0} (P : Result A Refusal → Type 0) (r : Result A Refusal) (k : Refusal) → IsErrAnd r (λ e. e ≡ k) → P (Err k) → P r
passed_on P (Ok x) k i h = absurd i
passed_on P (Err e) k i h = subst (λ (j : Refusal). P (Err j)) (sym i) h

-- a part is lent from the start on
from_start : (x : ℕ) → x - 0 ≡ x
from_start x = omega arith

module _ (w : ℕ) (b : List ℕ) where
  pub judged_length : (Lent (shape w) b → ⊥) → Judged w b (Err BadLength)
  unfolding Judged UnfitFor
  judged_length n = n

  module _ (l : Lent (shape w) b) (m : ℕ) (e : m ≡ word_at magic_bytes b 0) where
    pub judged_word : (m ≡ (shape w).magic → ⊥) → Judged w b (Err NotOpened)
    unfolding Judged UnfitFor
    judged_word n = (l, λ o. n (e ∙ o))

    -- the end that is named is none
    pub judged_end : m ≡ (shape w).magic → (x : ℕ) → x ≡ stored_end (shape w) b → (r : Bool) → Tells r (MayEnd (shape w) (length b) x) → r ≡ false → Judged w b (Err NotSound)
    unfolding Judged UnfitFor
    judged_end i x k r t f = (l, sym e ∙ i, λ s. clash r f (t.is_yes (subst (λ (y : ℕ). MayEnd (shape w) (length b) y) (sym k) s.here.ended)))

    pub judged_unsound : m ≡ (shape w).magic → (d : List ℕ) → d ≡ heap_of (shape w) b → (r : Bool) → Tells r (Sound (shape w) d) → r ≡ false → Judged w b (Err NotSound)
    unfolding Judged UnfitFor
    judged_unsound i d k r t f = (l, sym e ∙ i, λ s. clash r f (t.is_yes (record { layout = s.layout; here = subst (λ (y : List ℕ). Here (shape w) y s.layout) (sym k) s.here.here })))

  -- an end that may be: the part up to it is as long, and lent
  pub part_lent : Width w → Lent (shape w) b → (x : ℕ) → MayEnd (shape w) (length b) x → Lent (shape w) (take (x - 0) b)
  part_lent wd l x m =
      let e : length (take (x - 0) b) ≡ x = rw (from_start x) (length-take-le x b (omega (arith, m.1))) in
      (omega (arith, e, may_shortest wd (length b) x l.0 m), omega (arith, e, m.1, l.1))

  -- and of the end that is named, the heap's own part
  module _ (l : Lent (shape w) b) (x : ℕ) (k : x ≡ stored_end (shape w) b) (m : MayEnd (shape w) (length b) x) where
    pub may_lend : stored_end (shape w) b ≤ length b
    may_lend = omega (arith, k, m.1)

    module _ (d : List ℕ) (o : d ≡ heap_of (shape w) b) where
      pub own_part_lent : Width w → Lent (shape w) d
      own_part_lent wd = subst (λ (y : List ℕ). Lent (shape w) y) (sym (o ∙ ap (λ (y : ℕ). take y b) (sym (from_start x ∙ k)))) (part_lent wd l x m)

      pub judged_fine : (r : Bool) → Tells r (Sound (shape w) d) → r ≡ true → Judged w b (Ok tt)
      unfolding Judged
      judged_fine r t e =
          let s = t.yes_is e in
          (l, record { layout = s.layout; here = record { ended = subst (λ (y : ℕ). MayEnd (shape w) (length b) y) k m; here = subst (λ (y : List ℕ). Here (shape w) y s.layout) o s.here } })

  -- a verdict, and what is lent with it
  module _ (v : Result ⊤ Refusal) (x : Judged w b v) where
    pub examined_unfit : (k : Refusal) → v ≡ Err k → Examined w b (Err k)
    unfolding Examined Judged
    examined_unfit k e = rw e at x

    module _ (u : ⊤) (e : v ≡ Ok u) where
      pub judged : Lent (shape w) b × SoundIn (shape w) b
      unfolding Judged
      judged = rw e at x

      pub may_read : stored_end (shape w) b ≤ length b
      may_read = omega (arith, judged.1.here.ended.1)

      module _ (d : List ℕ) (o : d ≡ heap_of (shape w) b) where
        pub own_sound : Sound (shape w) d
        own_sound = record { layout = judged.1.layout; here = subst (λ (y : List ℕ). Here (shape w) y judged.1.layout) (sym o) judged.1.here.here }

        pub examined_fit : Examined w b (Ok d)
        unfolding Examined
        examined_fit = (judged, o)

  -- so each way shows the same of the examination
  pub examined_length : (Lent (shape w) b → ⊥) → Examined w b (Err BadLength)
  examined_length n = examined_unfit _ (judged_length n) _ refl

  module _ (l : Lent (shape w) b) (m : ℕ) (e : m ≡ word_at magic_bytes b 0) where
    pub examined_word : (m ≡ (shape w).magic → ⊥) → Examined w b (Err NotOpened)
    examined_word n = examined_unfit _ (judged_word l m e n) _ refl

    pub examined_end : m ≡ (shape w).magic → (x : ℕ) → x ≡ stored_end (shape w) b → (r : Bool) → Tells r (MayEnd (shape w) (length b) x) → r ≡ false → Examined w b (Err NotSound)
    examined_end i x k r t f = examined_unfit _ (judged_end l m e i x k r t f) _ refl

    pub examined_unsound : m ≡ (shape w).magic → (d : List ℕ) → d ≡ heap_of (shape w) b → (r : Bool) → Tells r (Sound (shape w) d) → r ≡ false → Examined w b (Err NotSound)
    examined_unsound i d k r t f = examined_unfit _ (judged_unsound l m e i d k r t f) _ refl

  module _ (l : Lent (shape w) b) (x : ℕ) (k : x ≡ stored_end (shape w) b) (m : MayEnd (shape w) (length b) x) (d : List ℕ) (o : d ≡ heap_of (shape w) b) where
    pub examined_fine : (r : Bool) → Tells r (Sound (shape w) d) → r ≡ true → Examined w b (Ok d)
    examined_fine r t e = examined_fit _ (judged_fine l x k m d o r t e) tt refl d o

  -- a heap that is fine, and what is lent of it
  pub fine_lent : (v : Result (List ℕ) Refusal) {o : List ℕ} → Examined w b v → v ≡ Ok o → (Lent (shape w) b × SoundIn (shape w) b) × (o ≡ heap_of (shape w) b)
  unfolding Examined
  fine_lent v x e = rw e at x

  pub fine_heap : (v : Result (List ℕ) Refusal) {o : List ℕ} → Examined w b v → v ≡ Ok o → Lent (shape w) b × SoundIn (shape w) b
  fine_heap v x e = (fine_lent v x e).0

  -- a reason to say no is the contract's, and no other applies
  module _ {A : Type 0} (no-with : ℕ → A) (rule : Layout → A) where
    unfit_checked : (k : Refusal) → UnfitFor w b k → Checked (shape w) b no-with rule (no-with (refusal_number k))
    unfolding UnfitFor
    unfit_checked BadLength n = record { one = λ _. refl; two = λ l. absurd (n l); three = λ l. absurd (n l); sound = λ l. absurd (n l) }
    unfit_checked NotOpened n =
        record { one = λ m. absurd (m n.0); two = λ _ _. refl; three = λ _ o. absurd (n.1 o); sound = λ _ L h. absurd (n.1 (own_opened (shape w) b L h)) }
    unfit_checked NotSound n =
        record { one = λ m. absurd (m n.0); two = λ _ m. absurd (m n.1); three = λ _ _ _. refl; sound = λ _ L h. absurd (n.2 (record { layout = L; here = h })) }
    unfit_checked BadSize n = absurd n
    unfit_checked NotLive n = absurd n
    unfit_checked NoRoom n = absurd n
    unfit_checked AlreadyOpened n = absurd n
    unfit_checked BadEnd n = absurd n

    pub refuses : (v : Result (List ℕ) Refusal) (k : Refusal) → Examined w b v → v ≡ Err k → Checked (shape w) b no-with rule (no-with (refusal_number k))
    unfolding Examined
    refuses v k x e = unfit_checked k (rw e at x)

    -- and of a sound heap the rule decides
    fit_decides : Lent (shape w) b × SoundIn (shape w) b → (r : A) → ((L : Layout) → HereIn (shape w) b L → r ≡ rule L) → Checked (shape w) b no-with rule r
    fit_decides y r d =
        record {
          one = λ n. absurd (n y.0);
          two = λ _ n. absurd (n (own_opened (shape w) b y.1.layout y.1.here));
          three = λ _ _ n. absurd (n y.1);
          sound = λ _ L h. d L h;
        }

    pub decides : (v : Result (List ℕ) Refusal) {o : List ℕ} → Examined w b v → v ≡ Ok o → (r : A) → ((L : Layout) → HereIn (shape w) b L → r ≡ rule L) → Checked (shape w) b no-with rule r
    decides v x e r d = fit_decides (fine_heap v x e) r d

-- a call that has a size
module _ (w : ℕ) (b : List ℕ) (n : ℕ) where
  pub fit_for : (v : Result (List ℕ) Refusal) {o : List ℕ} → Examined w b v → v ≡ Ok o → (r : Bool) → Tells r (GoodSize (shape w) n) → r ≡ true → ExaminedFor w b n (Ok o)
  unfolding ExaminedFor
  fit_for v x e r t f = (rw e at x, t.yes_is f)

  pub bad_for : (v : Result (List ℕ) Refusal) {o : List ℕ} → Examined w b v → v ≡ Ok o → (r : Bool) → Tells r (GoodSize (shape w) n) → r ≡ false → ExaminedFor w b n (Err BadSize)
  unfolding ExaminedFor
  bad_for v x e r t f = inr (refl, fine_heap w b v x e, λ g. clash r f (t.is_yes g))

  pub unfit_for : (v : Result (List ℕ) Refusal) (k : Refusal) → Examined w b v → v ≡ Err k → ExaminedFor w b n (Err k)
  unfolding ExaminedFor
  unfit_for v k x e = inl (rw e at x)

  -- a heap and a size that are fine
  pub fine_for : (v : Result (List ℕ) Refusal) {o : List ℕ} → ExaminedFor w b n v → v ≡ Ok o → ((Lent (shape w) b × SoundIn (shape w) b) × (o ≡ heap_of (shape w) b)) × GoodSize (shape w) n
  unfolding ExaminedFor Examined
  fine_for v x e = rw e at x

  pub sized_refuses : (next : Layout → Outcome) (v : Result (List ℕ) Refusal) (k : Refusal) → ExaminedFor w b n v → v ≡ Err k → Checked (shape w) b (refused b) (λ L. sized (shape w) n b (next L)) (refused b (refusal_number k))
  unfolding ExaminedFor
  sized_refuses next v k x e = go (rw e at x)
    where
      go : Examined w b (Err k) ⊎ ((k ≡ BadSize) × (Lent (shape w) b × SoundIn (shape w) b) × (GoodSize (shape w) n → ⊥)) → Checked (shape w) b (refused b) (λ L. sized (shape w) n b (next L)) (refused b (refusal_number k))
      go (inl u) = refuses w b (refused b) (λ L. sized (shape w) n b (next L)) (Err k) k u refl
      go (inr u) =
          subst (λ (j : Refusal). Checked (shape w) b (refused b) (λ L. sized (shape w) n b (next L)) (refused b (refusal_number j))) (sym u.0)
          (fit_decides w b (refused b) (λ L. sized (shape w) n b (next L)) u.1 (refused b bad_size) (λ L h. rw (bad (shape w) n u.2) refl))

  pub sized_decides : (next : Layout → Outcome) (v : Result (List ℕ) Refusal) {o : List ℕ} → ExaminedFor w b n v → v ≡ Ok o → (r : Outcome) → ((L : Layout) → HereIn (shape w) b L → r ≡ next L) → Checked (shape w) b (refused b) (λ L. sized (shape w) n b (next L)) r
  unfolding ExaminedFor
  sized_decides next v x e r d =
      let y = fine_for v x e in
      fit_decides w b (refused b) (λ L. sized (shape w) n b (next L)) y.0.0 r (λ L h. rw (good (shape w) n y.1) (d L h))

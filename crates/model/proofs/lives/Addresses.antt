-- The addresses of what is live: each stands once, so a list of them can be freed one after the other, in any order, until nothing is live.
use Rattle.std.proofs.Common.{ℕ, ◌+◌, ◌≤◌, ◌≡◌, refl, sym, ap, subst, ◌∙◌, cond, List, [], ◌∷◌, inl, inr, ⊎_elim, arith, eqb, eq-eqb, ne_eqb}
use Rattle.std.proofs.Math.Decide.{ℕ_discrete, dec_le}
use Rattle.model.specs.Shape.{Shape, start, item_size}
use Rattle.model.specs.Parts.{first_item_at}
use Rattle.model.specs.Layout.{Slot, idle, held, Use, variable, page, Block, free, used, Layout, use_size}
use Rattle.model.specs.Sound.{times, Allowed, AllowedUse, AllAllowed, Valid}
use Rattle.model.specs.Live.{◌∈◌, InTurn, Payload, slots_live, use_live, live_from, live}
use Rattle.model.specs.Promises.{addresses}
use Rattle.model.proofs.lives.Members.{in_either}
use Rattle.model.proofs.lives.Payloads.{no_overlap}
use Rattle.model.proofs.lives.Lives.{Adds}

-- of payloads: an address stands among theirs where one of them has it
pub at_address : (a : ℕ) (xs : List Payload) → 1 ≤ times a (addresses xs) → (x : Payload) × (x ∈ xs) × (x.address ≡ a)
unfolding addresses times ◌∈◌
at_address a [] l = absurd (omega arith)
at_address a (x ∷ xs) l = go (ℕ_discrete a x.address) (at_address a xs)
  where
    go : Dec (a ≡ x.address) → (1 ≤ times a (addresses xs) → (y : Payload) × (y ∈ xs) × (y.address ≡ a)) → (y : Payload) × (y ∈ (x ∷ xs)) × (y.address ≡ a)
    go (yes e) r = (x, inl refl, sym e)
    go (no n) r = let y = r (omega (arith, rw (ne_eqb a x.address n) at l)) in (y.0, inr y.1, y.2)

pub its_address : (x : Payload) (xs : List Payload) → x ∈ xs → 1 ≤ times x.address (addresses xs)
unfolding addresses times ◌∈◌
its_address x [] h = absurd h
its_address x (y ∷ ys) (inl e) = rw (eq-eqb x.address y.address (ap (λ (z : Payload). z.address) e)) (omega arith)
its_address x (y ∷ ys) (inr h) = omega (arith, its_address x ys h)

-- in payloads that are apart, none of them empty, it stands once
once : (a : ℕ) (xs : List Payload) → ((x : Payload) → x ∈ xs → 1 ≤ x.size) → ((x y : Payload) → InTurn x y xs → x.address + x.size ≤ y.address) → times a (addresses xs) ≤ 1
unfolding addresses times ◌∈◌ InTurn
once a [] some apart = omega arith
once a (x ∷ xs) some apart = go (ℕ_discrete a x.address) (dec_le 1 (times a (addresses xs))) (once a xs (λ y i. some y (inr i)) (λ y z i. apart y z (inr i)))
  where
    go : Dec (a ≡ x.address) → Dec (1 ≤ times a (addresses xs)) → times a (addresses xs) ≤ 1 → cond (eqb a x.address) 1 0 + times a (addresses xs) ≤ 1
    go (yes e) (yes l) r = let y = at_address a xs l in absurd (omega (arith, e, y.2, some x (inl refl), apart x y.0 (inl (refl, y.1))))
    go (yes e) (no l) r = rw (eq-eqb a x.address e) (omega arith)
    go (no n) d r = rw (ne_eqb a x.address n) (omega (arith, r))

module _ (S : Shape) where
  -- no live payload is empty
  slots_some : (c p : ℕ) (ss : List Slot) (x : Payload) → x ∈ slots_live S c p ss → 1 ≤ x.size
  unfolding slots_live ◌∈◌
  slots_some c p [] x h = absurd h
  slots_some c p (idle ∷ ss) x h = slots_some c (p + item_size S c) ss x h
  slots_some c p (held n ∷ ss) x (inl e) = omega (arith, ap (λ (y : Payload). y.size) e)
  slots_some c p (held n ∷ ss) x (inr h) = slots_some c (p + item_size S c) ss x h

  use_some : (p : ℕ) (u : Use) → AllowedUse S u → (x : Payload) → x ∈ use_live S p u → 1 ≤ x.size
  unfolding use_live AllowedUse ◌∈◌
  use_some p (variable s) a x (inl e) = omega (arith, a.0, ap (λ (y : Payload). y.size) e)
  use_some p (variable s) a x (inr h) = absurd h
  use_some p (page c k ss) a x h = slots_some c (first_item_at S p) ss x h

  blocks_some : (p : ℕ) (bs : List Block) → AllAllowed S bs → (x : Payload) → x ∈ live_from S p bs → 1 ≤ x.size
  unfolding live_from AllAllowed Allowed ◌∈◌
  blocks_some p [] a x h = absurd h
  blocks_some p (free s ∷ bs) a x h = blocks_some (p + s) bs a.1 x h
  blocks_some p (used u ∷ bs) a x h =
      ⊎_elim (λ k. use_some p u a.0 x k) (λ k. blocks_some (p + use_size S u) bs a.1 x k) (in_either x (use_live S p u) (live_from S (p + use_size S u) bs) h)

  -- a list names what is live in a layout, each once
  pub record Names (order : List ℕ) (L : Layout) : Type 0 where
    pub once : (a : ℕ) → times a order ≤ 1
    pub lives : (a : ℕ) → 1 ≤ times a order → (x : Payload) × (x ∈ live S L) × (x.address ≡ a)
    pub all : (x : Payload) → x ∈ live S L → 1 ≤ times x.address order

  pub names : (end : ℕ) (order : List ℕ) (L : Layout) → Valid S end L → ((a : ℕ) → times a order ≡ times a (addresses (live S L))) → Names order L
  names end order L v same =
      record {
        once = λ a. rw (same a) (once a (live S L) (blocks_some (start S) L.blocks v.allowed) (no_overlap S end L v));
        lives = λ a l. at_address a (live S L) (rw (same a) at l);
        all = λ x i. rw (same x.address) (its_address x (live S L) i);
      }

  pub names_first : (a : ℕ) (rest : List ℕ) (L : Layout) → Names (a ∷ rest) L → (x : Payload) × (x ∈ live S L) × (x.address ≡ a)
  unfolding times
  names_first a rest L n = n.lives a (rw (eq-eqb a a refl) (omega arith))

  -- once the first of them is freed, the others name what is live then
  pub names_rest : (a : ℕ) (rest : List ℕ) {L M : Layout} (y : Payload) → y.address ≡ a → Adds S M L y → Names (a ∷ rest) L → Names rest M
  unfolding times
  names_rest a rest {L} {M} y at adds n =
      record {
        once = λ k. omega (arith, n.once k);
        lives = λ k l. let x = n.lives k (omega (arith, l)) in (x.0, still k l x, x.2);
        all = λ x i. omega (arith, rw (ne_eqb x.address a (λ e. adds.new x i (e ∙ sym at))) at (n.all x (adds.kept x i)));
      }
    where
      -- a is in the rest no more
      other : (k : ℕ) → 1 ≤ times k rest → k ≡ a → ⊥
      other k l e = omega (arith, l, rw (eq-eqb k a e) at (n.once k))

      still : (k : ℕ) → 1 ≤ times k rest → (x : (x : Payload) × (x ∈ live S L) × (x.address ≡ k)) → x.0 ∈ live S M
      still k l x = ⊎_elim (λ i. i) (λ e. absurd (other k l (sym x.2 ∙ ap (λ (z : Payload). z.address) e ∙ at))) (adds.only x.0 x.1)

  -- where none is named, nothing is live
  pub names_none : (L : Layout) → Names [] L → live S L ≡ []
  unfolding times ◌∈◌
  names_none L n = go (live S L) refl
    where
      go : (xs : List Payload) → live S L ≡ xs → live S L ≡ []
      go [] e = e
      go (x ∷ xs) e = absurd (omega (arith, n.all x (subst (λ (l : List Payload). x ∈ l) (sym e) (inl refl))))

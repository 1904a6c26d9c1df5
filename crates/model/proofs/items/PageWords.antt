-- The items of a new page, linked in rising order: their headers, and the list of their offsets.
use Rattle.std.proofs.Common.{ℕ, zero, suc, ◌+◌, ◌*◌, ◌≤◌, ◌<◌, ◌≡◌, refl, ap, ◌∙◌, List, [], ◌∷◌, arith, replicate, eq-eqb, ne_eqb}
use Rattle.model.specs.Shape.{Shape, index, item_size, offset_of}
use Rattle.model.specs.Picture.{Word}
use Rattle.model.specs.Layout.{Slot, idle, held, head_of, next_of, header, slot_words}
use Rattle.model.specs.Sound.{idle_slots}
use Rattle.model.specs.inner.Links.{item_words}

module _ (S : Shape) where
  -- the offsets of n free items from p on
  abbrev pub offsets : ℕ → ℕ → ℕ → List ℕ
  offsets c p n = idle_slots S c p (replicate n idle)

  pub first_offset : (c p n : ℕ) → 0 < n → head_of (offsets c p n) ≡ offset_of S p
  unfolding head_of idle_slots
  first_offset c p zero h = absurd (omega arith)
  first_offset c p (suc n) h = refl

  -- headers depend on what comes after their own offsets only
  slots_agree : (c p : ℕ) (l m : List ℕ) (ss : List Slot) → index S ≤ p → ((x : ℕ) → offset_of S p ≤ x → next_of x l ≡ next_of x m) → slot_words S c l p ss ≡ slot_words S c m p ss
  unfolding slot_words header
  slots_agree c p l m [] h e = refl
  slots_agree c p l m (idle ∷ ss) h e = rw (e (offset_of S p) (omega arith), slots_agree c (p + item_size S c) l m ss (omega arith) (λ x k. e x (omega arith)))
  slots_agree c p l m (held n ∷ ss) h e = rw (slots_agree c (p + item_size S c) l m ss (omega arith) (λ x k. e x (omega arith)))

  pub items_linked : (c p n : ℕ) → index S ≤ p → slot_words S c (offsets c p n) p (replicate n idle) ≡ item_words S c p n
  unfolding slot_words header idle_slots item_words next_of head_of
  items_linked c p zero h = refl
  items_linked c p (suc zero) h = rw (eq-eqb (offset_of S p) (offset_of S p) refl) (ap (λ (v : ℕ). record { at = p; is = v } ∷ []) (omega arith))
  items_linked c p (suc (suc n)) h =
      let q = p + item_size S c in
      let later : slot_words S c (offset_of S p ∷ offsets c q (suc n)) q (replicate (suc n) idle) ≡ item_words S c q (suc n) =
      slots_agree c q (offset_of S p ∷ offsets c q (suc n)) (offsets c q (suc n)) (replicate (suc n) idle) (omega arith) (λ x k. rw (ne_eqb x (offset_of S p) (λ e. omega arith)) refl)
      ∙ items_linked c q (suc n) (omega arith) in
      rw (eq-eqb (offset_of S p) (offset_of S p) refl) (ap (λ (l : List Word). record { at = p; is = 16 * offset_of S q + 4 * c + 1 } ∷ l) later)

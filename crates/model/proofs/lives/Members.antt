-- Laws of what stands in a list.
use Rattle.std.proofs.Common.{◌⊎◌, inl, inr, ⊎_elim, List, [], ◌∷◌, ◌++◌}
use Rattle.model.specs.Live.{◌∈◌, InTurn}

module _ {A : Type 0} where
  pub in_left : (x : A) (xs ys : List A) → x ∈ xs → x ∈ (xs ++ ys)
  unfolding ◌∈◌
  in_left x [] ys h = absurd h
  in_left x (y ∷ xs) ys (inl e) = inl e
  in_left x (y ∷ xs) ys (inr h) = inr (in_left x xs ys h)

  pub in_right : (x : A) (xs ys : List A) → x ∈ ys → x ∈ (xs ++ ys)
  unfolding ◌∈◌
  in_right x [] ys h = h
  in_right x (y ∷ xs) ys h = inr (in_right x xs ys h)

  pub in_either : (x : A) (xs ys : List A) → x ∈ (xs ++ ys) → (x ∈ xs) ⊎ (x ∈ ys)
  unfolding ◌∈◌
  in_either x [] ys h = inr h
  in_either x (y ∷ xs) ys (inl e) = inl (inl e)
  in_either x (y ∷ xs) ys (inr h) = ⊎_elim (λ k. inl (inr k)) (λ k. inr k) (in_either x xs ys h)

  -- of two in turn, each stands in the list
  pub turn_first : (x y : A) (zs : List A) → InTurn x y zs → x ∈ zs
  unfolding ◌∈◌ InTurn
  turn_first x y [] h = h
  turn_first x y (z ∷ zs) (inl h) = inl h.0
  turn_first x y (z ∷ zs) (inr h) = inr (turn_first x y zs h)

  pub turn_second : (x y : A) (zs : List A) → InTurn x y zs → y ∈ zs
  unfolding ◌∈◌ InTurn
  turn_second x y [] h = h
  turn_second x y (z ∷ zs) (inl h) = inr h.1
  turn_second x y (z ∷ zs) (inr h) = inr (turn_second x y zs h)

  -- two in turn in joined lists: both in the first, one in each, or both in the second
  pub turn_either : (x y : A) (xs ys : List A) → InTurn x y (xs ++ ys) → InTurn x y xs ⊎ (((x ∈ xs) × (y ∈ ys)) ⊎ InTurn x y ys)
  unfolding InTurn ◌∈◌
  turn_either x y [] ys h = inr (inr h)
  turn_either x y (z ∷ xs) ys (inl h) = ⊎_elim (λ k. inl (inl (h.0, k))) (λ k. inr (inl (inl h.0, k))) (in_either y xs ys h.1)
  turn_either x y (z ∷ xs) ys (inr h) =
      ⊎_elim (λ k. inl (inr k)) (λ k. ⊎_elim (λ j. inr (inl (inr j.0, j.1))) (λ j. inr (inr j)) k) (turn_either x y xs ys h)

-- One word of a picture changes its value.
use Rattle.std.proofs.Common.{ℕ, ◌+◌, ◌^◌, ◌≤◌, ◌<◌, ◌≡◌, refl, ap, ◌∙◌, cond, List, [], ◌∷◌, ◌++◌, ◌⊎◌, inl, inr, arith, length, eqb, eq-eqb, ne_eqb}
use Rattle.words.specs.Word.{put, Bytes}
use Rattle.words.proofs.WordLaws.{length_put, put_out, word_same, word_other, bytes_put}
use Rattle.model.specs.Picture.{Word, Shows, draw}
use Rattle.model.proofs.pictures.Pictures.{Rise, Outside, rise_le, shows_put, drawn}

-- the words, with v at position a
unfoldable pub set_at : ℕ → ℕ → List Word → List Word
set_at a v [] = []
set_at a v (x ∷ xs) = record { at = x.at; is = cond (eqb a x.at) v x.is } ∷ set_at a v xs

-- one of the words stands at a
unfoldable pub Has : ℕ → List Word → Type 0
Has a [] = ⊥
Has a (x ∷ xs) = (a ≡ x.at) ⊎ Has a xs

pub set_append : (a v : ℕ) (xs ys : List Word) → set_at a v (xs ++ ys) ≡ set_at a v xs ++ set_at a v ys
unfolding set_at
set_append a v [] ys = refl
set_append a v (x ∷ xs) ys = ap (λ (l : List Word). record { at = x.at; is = cond (eqb a x.at) v x.is } ∷ l) (set_append a v xs ys)

pub has_left : (a : ℕ) (xs ys : List Word) → Has a xs → Has a (xs ++ ys)
unfolding Has
has_left a [] ys h = absurd h
has_left a (x ∷ xs) ys (inl e) = inl e
has_left a (x ∷ xs) ys (inr h) = inr (has_left a xs ys h)

pub has_right : (a : ℕ) (xs ys : List Word) → Has a ys → Has a (xs ++ ys)
unfolding Has
has_right a [] ys h = h
has_right a (x ∷ xs) ys h = inr (has_right a xs ys h)

pub has_set : (a c v : ℕ) (xs : List Word) → Has a xs → Has a (set_at c v xs)
unfolding Has set_at
has_set a c v [] h = h
has_set a c v (x ∷ xs) (inl e) = inl e
has_set a c v (x ∷ xs) (inr h) = inr (has_set a c v xs h)

module _ (w : ℕ) where
  pub rise_set : (a v lo : ℕ) (ws : List Word) (hi : ℕ) → Rise w lo ws hi → Rise w lo (set_at a v ws) hi
  unfolding Rise set_at
  rise_set a v lo [] hi r = r
  rise_set a v lo (x ∷ xs) hi r = (r.0, rise_set a v (x.at + w) xs hi r.1)

  pub outside_set : (i a v : ℕ) (ws : List Word) → Outside w i (set_at a v ws) → Outside w i ws
  unfolding Outside set_at
  outside_set i a v [] o = o
  outside_set i a v (x ∷ xs) o = (o.0, outside_set i a v xs o.1)

  pub has_out : (i a : ℕ) (ws : List Word) → Has a ws → Outside w i ws → a ≤ i → i < a + w → ⊥
  unfolding Outside Has
  has_out i a [] h o = absurd h
  has_out i a (x ∷ xs) (inl e) o = λ k l. o.0 (omega arith) (omega arith)
  has_out i a (x ∷ xs) (inr h) o = has_out i a xs h o.1

  -- nothing changes where no word stands at a
  pub set_away : 0 < w → (a v lo : ℕ) (ws : List Word) (hi : ℕ) → Rise w lo ws hi → (lo ≤ a → a < hi → ⊥) → set_at a v ws ≡ ws
  unfolding Rise set_at
  set_away w0 a v lo [] hi r h = refl
  set_away w0 a v lo (x ∷ xs) hi r h =
      let m = rise_le w (x.at + w) xs hi r.1 in
      rw (ne_eqb a x.at (λ e. h (omega (arith, r.0)) (omega arith)), set_away w0 a v (x.at + w) xs hi r.1 (λ k l. h (omega (arith, r.0)) l))

  pub has_in : 0 < w → (a lo : ℕ) (ws : List Word) (hi : ℕ) → Rise w lo ws hi → Has a ws → (lo ≤ a) × (a + w ≤ hi)
  unfolding Rise Has
  has_in w0 a lo [] hi r h = absurd h
  has_in w0 a lo (x ∷ xs) hi r (inl e) = (omega (arith, r.0), omega (arith, rise_le w (x.at + w) xs hi r.1))
  has_in w0 a lo (x ∷ xs) hi r (inr h) = let k = has_in w0 a (x.at + w) xs hi r.1 h in (omega (arith, k.0, r.0), k.1)

  -- the word that is written is shown, and the others stay
  pub set_shows : 0 < w → (a v lo : ℕ) (ws : List Word) (hi : ℕ) (b : List ℕ) → Rise w lo ws hi → hi ≤ length b → v < 256 ^ w → Has a ws → Shows w b ws → Shows w (put w b a v) (set_at a v ws)
  unfolding Rise Has Shows set_at
  set_shows w0 a v lo [] hi b r n f h s = tt
  set_shows w0 a v lo (x ∷ xs) hi b r n f (inl e) s =
      let m = rise_le w (x.at + w) xs hi r.1 in (
        rw (eq-eqb a x.at e, ← e) (word_same w b a v (omega arith) f),
        rw (set_away w0 a v (x.at + w) xs hi r.1 (λ k l. omega arith)) (shows_put w b (x.at + w) xs hi a v r.1 (λ k l. omega arith) s.1),
      )
  set_shows w0 a v lo (x ∷ xs) hi b r n f (inr h) s =
      let k = has_in w0 a (x.at + w) xs hi r.1 h in (
        rw (ne_eqb a x.at (λ e. omega (arith, k.0))) (word_other w b a v x.at (λ _ l. omega (arith, k.0)) ∙ s.0),
        set_shows w0 a v (x.at + w) xs hi b r.1 n f h s.1,
      )

  -- two words written are the picture with both changed, drawn
  pub two_put : 0 < w → (a v c u lo : ℕ) (ws : List Word) (hi : ℕ) (b : List ℕ) → Rise w lo ws hi → hi ≤ length b → Bytes b → v < 256 ^ w → u < 256 ^ w → Has a ws → Has c ws → Shows w b ws
      → put w (put w b a v) c u ≡ draw w (set_at c u (set_at a v ws)) b
  two_put w0 a v c u lo ws hi b r n bytes f g h k s =
      drawn w (set_at c u (set_at a v ws)) b (put w (put w b a v) c u) (bytes_put w (put w b a v) c u (bytes_put w b a v bytes))
      (length_put w (put w b a v) c u ∙ length_put w b a v)
      (set_shows w0 c u lo (set_at a v ws) hi (put w b a v) (rise_set a v lo ws hi r) (rw length_put n) g (has_set c a v ws k) (set_shows w0 a v lo ws hi b r n f h s))
      (λ i l o.
      let o1 = outside_set i c u (set_at a v ws) o in
      let o2 = outside_set i a v ws o1 in
      put_out w (put w b a v) c u i (has_out i c ws k o2) ∙ put_out w b a v i (has_out i a ws h o2))

-- Laws of pictures, at every width.
use Rattle.std.proofs.Common.{ℕ, ◌+◌, ◌^◌, ◌≤◌, ◌<◌, ◌≡◌, refl, sym, ap, ◌∙◌, List, [], ◌∷◌, ◌++◌, inl, inr, arith, length, get_or, ext_get_or}
use Rattle.std.proofs.Math.Decide.{dec_lt, dec_le}
use Rattle.words.specs.Word.{word_at, put, Bytes}
use Rattle.words.proofs.WordLaws.{length_put, put_out, put_same, put_swap, put_in, word_same, word_other, word_agree, bytes_put}
use Rattle.model.specs.Picture.{Word, Shows, draw}
use Rattle.model.specs.Live.{◌∈◌}

module _ (w : ℕ) where
  -- the words stand in rising order, apart, from lo on and below hi
  unfoldable pub Rise : ℕ → List Word → ℕ → Type 0
  Rise lo [] hi = lo ≤ hi
  Rise lo (x ∷ xs) hi = (lo ≤ x.at) × Rise (x.at + w) xs hi

  -- every value fits a word
  unfoldable pub Fit : List Word → Type 0
  Fit [] = Unit {0}
  Fit (x ∷ xs) = (x.is < 256 ^ w) × Fit xs

  -- the byte at i is in none of the words
  unfoldable pub Outside : ℕ → List Word → Type 0
  Outside i [] = Unit {0}
  Outside i (x ∷ xs) = (x.at ≤ i → i < x.at + w → ⊥) × Outside i xs

  -- no word touches the bytes from lo to hi
  unfoldable pub Clear : ℕ → ℕ → List Word → Type 0
  Clear lo hi [] = Unit {0}
  Clear lo hi (x ∷ xs) = (lo < x.at + w → x.at < hi → ⊥) × Clear lo hi xs

  -- every word is within the bytes from lo to hi
  unfoldable pub Inside : ℕ → ℕ → List Word → Type 0
  Inside lo hi [] = Unit {0}
  Inside lo hi (x ∷ xs) = ((lo ≤ x.at) × (x.at + w ≤ hi)) × Inside lo hi xs

module _ (w : ℕ) where
  pub rise_le : (lo : ℕ) (ws : List Word) (hi : ℕ) → Rise w lo ws hi → lo ≤ hi
  unfolding Rise
  rise_le lo [] hi r = r
  rise_le lo (x ∷ xs) hi r = omega (arith, rise_le (x.at + w) xs hi r.1)

  pub rise_down : (lo mid : ℕ) (ys : List Word) (hi : ℕ) → lo ≤ mid → Rise w mid ys hi → Rise w lo ys hi
  unfolding Rise
  rise_down lo mid [] hi h s = omega arith
  rise_down lo mid (y ∷ ys) hi h s = (omega arith, s.1)

  pub rise_append : (lo : ℕ) (xs : List Word) (mid : ℕ) (ys : List Word) (hi : ℕ) → Rise w lo xs mid → Rise w mid ys hi → Rise w lo (xs ++ ys) hi
  unfolding Rise
  rise_append lo [] mid ys hi r s = rise_down lo mid ys hi r s
  rise_append lo (x ∷ xs) mid ys hi r s = (r.0, rise_append (x.at + w) xs mid ys hi r.1 s)

  pub shows_append : (b : List ℕ) (xs ys : List Word) → Shows w b xs → Shows w b ys → Shows w b (xs ++ ys)
  unfolding Shows
  shows_append b [] ys s t = t
  shows_append b (x ∷ xs) ys s t = (s.0, shows_append b xs ys s.1 t)

  pub shows_left : (b : List ℕ) (xs ys : List Word) → Shows w b (xs ++ ys) → Shows w b xs
  unfolding Shows
  shows_left b [] ys s = tt
  shows_left b (x ∷ xs) ys s = (s.0, shows_left b xs ys s.1)

  pub shows_right : (b : List ℕ) (xs ys : List Word) → Shows w b (xs ++ ys) → Shows w b ys
  unfolding Shows
  shows_right b [] ys s = s
  shows_right b (x ∷ xs) ys s = shows_right b xs ys s.1

  pub fit_append : (xs ys : List Word) → Fit w xs → Fit w ys → Fit w (xs ++ ys)
  unfolding Fit
  fit_append [] ys s t = t
  fit_append (x ∷ xs) ys s t = (s.0, fit_append xs ys s.1 t)

  pub outside_left : (i : ℕ) (xs ys : List Word) → Outside w i (xs ++ ys) → Outside w i xs
  unfolding Outside
  outside_left i [] ys s = tt
  outside_left i (x ∷ xs) ys s = (s.0, outside_left i xs ys s.1)

  pub outside_right : (i : ℕ) (xs ys : List Word) → Outside w i (xs ++ ys) → Outside w i ys
  unfolding Outside
  outside_right i [] ys s = s
  outside_right i (x ∷ xs) ys s = outside_right i xs ys s.1

  -- what a word's write leaves shown
  pub shows_put : (b : List ℕ) (lo : ℕ) (ws : List Word) (hi p v : ℕ) → Rise w lo ws hi → (lo < p + w → p < hi → ⊥) → Shows w b ws → Shows w (put w b p v) ws
  unfolding Shows Rise
  shows_put b lo [] hi p v r h s = tt
  shows_put b lo (x ∷ xs) hi p v r h s =
      let m = rise_le (x.at + w) xs hi r.1 in (
        word_other w b p v x.at (λ k l. h (omega (arith, r.0)) (omega (arith, m))) ∙ s.0,
        shows_put b (x.at + w) xs hi p v r.1 (λ k l. h (omega (arith, r.0)) l) s.1,
      )

  -- what a drawing leaves shown
  pub shows_draw : (b : List ℕ) (lo : ℕ) (ws : List Word) (hi : ℕ) (cs : List Word) → Rise w lo ws hi → Clear w lo hi cs → Shows w b ws → Shows w (draw w cs b) ws
  unfolding draw Clear
  shows_draw b lo ws hi [] r h s = s
  shows_draw b lo ws hi (x ∷ xs) r h s = shows_draw (put w b x.at x.is) lo ws hi xs r h.1 (shows_put b lo ws hi x.at x.is r h.0 s)

  pub length_draw : (ws : List Word) (b : List ℕ) → length (draw w ws b) ≡ length b
  unfolding draw
  length_draw [] b = refl
  length_draw (x ∷ xs) b = length_draw xs (put w b x.at x.is) ∙ length_put w b x.at x.is

  pub bytes_draw : (ws : List Word) (b : List ℕ) → Bytes b → Bytes (draw w ws b)
  unfolding draw
  bytes_draw [] b h = h
  bytes_draw (x ∷ xs) b h = bytes_draw xs (put w b x.at x.is) (bytes_put w b x.at x.is h)

  pub draw_append : (xs ys : List Word) (b : List ℕ) → draw w (xs ++ ys) b ≡ draw w ys (draw w xs b)
  unfolding draw
  draw_append [] ys b = refl
  draw_append (x ∷ xs) ys b = draw_append xs ys (put w b x.at x.is)

  -- a byte outside the picture stays
  pub draw_out : (ws : List Word) (b : List ℕ) (i : ℕ) → Outside w i ws → get_or (draw w ws b) i 0 ≡ get_or b i 0
  unfolding draw Outside
  draw_out [] b i h = refl
  draw_out (x ∷ xs) b i h = draw_out xs (put w b x.at x.is) i h.1 ∙ put_out w b x.at x.is i h.0

  -- bytes that agree outside it agree once it is drawn; so drawn again it changes nothing
  pub draw_agree : (ws : List Word) (b c : List ℕ) (i : ℕ) → i < length b → i < length c → (Outside w i ws → get_or c i 0 ≡ get_or b i 0) → get_or (draw w ws c) i 0 ≡ get_or (draw w ws b) i 0
  unfolding draw Outside
  draw_agree [] b c i l k h = h tt
  draw_agree (x ∷ xs) b c i l k h =
      draw_agree xs (put w b x.at x.is) (put w c x.at x.is) i (rw (length_put w b x.at x.is) l) (rw (length_put w c x.at x.is) k)
      (λ o. at o (dec_le x.at i) (dec_lt i (x.at + w)))
    where
      at : Outside w i xs → Dec (x.at ≤ i) → Dec (i < x.at + w) → get_or (put w c x.at x.is) i 0 ≡ get_or (put w b x.at x.is) i 0
      at o (yes m) (yes n) = put_same w b c x.at x.is i l k m n
      at o (yes m) (no n) = put_out w c x.at x.is i (λ _ q. n q) ∙ h ((λ _ q. n q), o) ∙ sym (put_out w b x.at x.is i (λ _ q. n q))
      at o (no m) d = put_out w c x.at x.is i (λ q _. m q) ∙ h ((λ q _. m q), o) ∙ sym (put_out w b x.at x.is i (λ q _. m q))

  pub draw_twice : (ws : List Word) (b : List ℕ) → draw w ws (draw w ws b) ≡ draw w ws b
  draw_twice ws b =
      ext_get_or 0 (draw w ws (draw w ws b)) (draw w ws b) (length_draw ws (draw w ws b))
      (λ i l. let k = rw (length_draw ws (draw w ws b)) at l in draw_agree ws b (draw w ws b) i (rw (length_draw ws b) at k) k (draw_out ws b i))

  -- a picture whose words are apart, within the bytes and fit is shown once it is drawn
  pub draw_shows : (lo : ℕ) (ws : List Word) (hi : ℕ) (b : List ℕ) → Rise w lo ws hi → hi ≤ length b → Fit w ws → Shows w (draw w ws b) ws
  unfolding draw Shows Rise Fit
  draw_shows lo [] hi b r h f = tt
  draw_shows lo (x ∷ xs) hi b r h f =
      let m = rise_le (x.at + w) xs hi r.1 in
      let e = length_put w b x.at x.is in (
        draw_below (x.at + w) xs hi (put w b x.at x.is) x.at r.1 (omega arith)
            ∙ word_same w b x.at x.is (omega arith) f.0,
        draw_shows (x.at + w) xs hi (put w b x.at x.is) r.1 (omega arith) f.1,
      )
    where
      draw_below : (lo : ℕ) (ws : List Word) (hi : ℕ) (b : List ℕ) (p : ℕ) → Rise w lo ws hi → p + w ≤ lo → word_at w (draw w ws b) p ≡ word_at w b p
      draw_below lo [] hi b p r h = refl
      draw_below lo (x ∷ xs) hi b p r h =
          draw_below (x.at + w) xs hi (put w b x.at x.is) p r.1 (omega (arith, r.0)) ∙ word_other w b x.at x.is p (λ k l. omega (arith, r.0))

  -- a word below a picture may be put before it is drawn or behind
  pub put_draw : (lo : ℕ) (ws : List Word) (hi : ℕ) (b : List ℕ) (p v : ℕ) → Rise w lo ws hi → p + w ≤ lo → put w (draw w ws b) p v ≡ draw w ws (put w b p v)
  unfolding draw Rise
  put_draw lo [] hi b p v r h = refl
  put_draw lo (x ∷ xs) hi b p v r h =
      put_draw (x.at + w) xs hi (put w b x.at x.is) p v r.1 (omega (arith, r.0)) ∙ ap (λ (d : List ℕ). draw w xs d) (sym (put_swap w b p v x.at x.is (omega (arith, r.0))))

  -- bytes that show a picture, and are as before outside it, are those with the picture drawn
  pub drawn : (ws : List Word) (b c : List ℕ) → Bytes c → length c ≡ length b → Shows w c ws
      → ((i : ℕ) → i < length b → Outside w i ws → get_or c i 0 ≡ get_or b i 0) → c ≡ draw w ws b
  unfolding draw Shows Outside
  drawn [] b c k e s h = ext_get_or 0 c b e (λ i l. h i (omega arith) tt)
  drawn (x ∷ xs) b c k e s h =
      drawn xs (put w b x.at x.is) c k (e ∙ sym (length_put w b x.at x.is)) s.1 (λ i l o. at i (rw length_put at l) o (dec_le x.at i) (dec_lt i (x.at + w)))
    where
      at : (i : ℕ) → i < length b → Outside w i xs → Dec (x.at ≤ i) → Dec (i < x.at + w) → get_or c i 0 ≡ get_or (put w b x.at x.is) i 0
      at i l o (yes m) (yes n) = sym (put_in w b c x.at i k l m n) ∙ ap (λ (v : ℕ). get_or (put w b x.at v) i 0) s.0
      at i l o (yes m) (no n) = h i l ((λ _ q. n q), o) ∙ sym (put_out w b x.at x.is i (λ _ q. n q))
      at i l o (no m) d = h i l ((λ q _. m q), o) ∙ sym (put_out w b x.at x.is i (λ q _. m q))

  -- a word that is there already, put again, changes nothing
  pub put_again : (b : List ℕ) (p : ℕ) → Bytes b → put w b p (word_at w b p) ≡ b
  unfolding draw Shows
  put_again b p k = sym (drawn (record { at = p; is = word_at w b p } ∷ []) b b k refl (refl, tt) (λ i l o. refl))

  -- words outside a stretch leave it clear
  pub rise_clear : (a b : ℕ) (lo : ℕ) (ws : List Word) (hi : ℕ) → Rise w lo ws hi → (a < hi → lo < b → ⊥) → Clear w a b ws
  unfolding Rise Clear
  rise_clear a b lo [] hi r h = tt
  rise_clear a b lo (x ∷ xs) hi r h =
      let m = rise_le (x.at + w) xs hi r.1 in
      ((λ k l. h (omega arith) (omega (arith, r.0))), rise_clear a b (x.at + w) xs hi r.1 (λ k l. h k (omega (arith, r.0))))

  -- words in a stretch, in any order, leave what is outside it clear
  pub inside_clear : (a b lo hi : ℕ) (ws : List Word) → Inside w lo hi ws → (a < hi → lo < b → ⊥) → Clear w a b ws
  unfolding Inside Clear
  inside_clear a b lo hi [] r h = tt
  inside_clear a b lo hi (x ∷ xs) r h = ((λ k l. h (omega (arith, r.0.1)) (omega (arith, r.0.0))), inside_clear a b lo hi xs r.1 h)

  pub rise_outside : (lo : ℕ) (ws : List Word) (hi i : ℕ) → Rise w lo ws hi → i < lo → Outside w i ws
  unfolding Rise Outside
  rise_outside lo [] hi i r h = tt
  rise_outside lo (x ∷ xs) hi i r h = ((λ k l. omega (arith, r.0)), rise_outside (x.at + w) xs hi i r.1 (omega (arith, r.0)))

  pub rise_inside : (lo mid : ℕ) (ws : List Word) (hi : ℕ) → lo ≤ mid → Rise w mid ws hi → Inside w lo hi ws
  unfolding Rise Inside
  rise_inside lo mid [] hi h r = tt
  rise_inside lo mid (x ∷ xs) hi h r = ((omega (arith, r.0), rise_le (x.at + w) xs hi r.1), rise_inside lo (x.at + w) xs hi (omega (arith, r.0)) r.1)

  -- what was written where the picture has a word is drawn over
  pub draw_over : (lo : ℕ) (ws : List Word) (hi : ℕ) (b c : List ℕ) → Rise w lo ws hi → hi ≤ length b → Fit w ws → Bytes c → length c ≡ length b
      → ((i : ℕ) → Outside w i ws → get_or c i 0 ≡ get_or b i 0) → draw w ws c ≡ draw w ws b
  draw_over lo ws hi b c r h f k e o =
      drawn ws b (draw w ws c) (bytes_draw ws c k) (length_draw ws c ∙ e) (draw_shows lo ws hi c r (omega arith) f) (λ i l out. draw_out ws c i out ∙ o i out)

  -- a byte outside the stretch of words is in none
  pub rise_out : (lo : ℕ) (ws : List Word) (hi i : ℕ) → Rise w lo ws hi → (lo ≤ i → i < hi → ⊥) → Outside w i ws
  unfolding Rise Outside
  rise_out lo [] hi i r h = tt
  rise_out lo (x ∷ xs) hi i r h =
      let m = rise_le (x.at + w) xs hi r.1 in
      ((λ k l. h (omega (arith, r.0)) (omega arith)), rise_out (x.at + w) xs hi i r.1 (λ k l. h (omega (arith, r.0)) l))

  pub outside_append : (i : ℕ) (xs ys : List Word) → Outside w i xs → Outside w i ys → Outside w i (xs ++ ys)
  unfolding Outside
  outside_append i [] ys s t = t
  outside_append i (x ∷ xs) ys s t = (s.0, outside_append i xs ys s.1 t)

  -- words stay shown where only bytes outside them change
  pub shows_same : (ws : List Word) (b c : List ℕ) → ((i : ℕ) → (Outside w i ws → ⊥) → get_or c i 0 ≡ get_or b i 0) → Shows w b ws → Shows w c ws
  unfolding Shows Outside
  shows_same [] b c h s = tt
  shows_same (x ∷ xs) b c h s =
      (word_agree w c b x.at (λ i k l. h i (λ o. o.0 k l)) ∙ s.0, shows_same xs b c (λ i n. h i (λ o. n o.1)) s.1)

  pub clear_append : (a b : ℕ) (xs ys : List Word) → Clear w a b xs → Clear w a b ys → Clear w a b (xs ++ ys)
  unfolding Clear
  clear_append a b [] ys s t = t
  clear_append a b (x ∷ xs) ys s t = (s.0, clear_append a b xs ys s.1 t)

  -- what a clear stretch says of each word, and of each byte in it
  pub clear_word : (a b : ℕ) (ws : List Word) (v : Word) → v ∈ ws → Clear w a b ws → a < v.at + w → v.at < b → ⊥
  unfolding Clear ◌∈◌
  clear_word a b [] v h s = absurd h
  clear_word a b (x ∷ xs) v (inl e) s = rw e s.0
  clear_word a b (x ∷ xs) v (inr h) s = clear_word a b xs v h s.1

  pub clear_outside : (a b : ℕ) (ws : List Word) (i : ℕ) → a ≤ i → i < b → Clear w a b ws → Outside w i ws
  unfolding Clear Outside
  clear_outside a b [] i l m s = tt
  clear_outside a b (x ∷ xs) i l m s = ((λ j k. s.0 (omega arith) (omega arith)), clear_outside a b xs i l m s.1)

-- A class's list is linked anew: a 0 at its head, the levels in front of that, and what it named before is of no account.
use Rattle.std.proofs.Common.{ℕ, ◌%◌, ◌≤◌, ◌<◌, ◌≡◌, refl, sym, ap, subst, ◌∙◌, List, [], ◌∷◌, ◌++◌, append_assoc, ⊎_elim, arith, length, get_or, set-set, eq-eqb, ne_eqb}
use Rattle.std.proofs.Math.Decide.{ℕ_discrete}
use Rattle.words.specs.Width.{Width}
use Rattle.words.specs.Word.{put, Bytes}
use Rattle.model.specs.Shape.{shape, start, end_of}
use Rattle.model.specs.Parts.{head_at}
use Rattle.model.specs.Layout.{Layout, head_of, next_of}
use Rattle.model.specs.Sound.{times, idle_items}
use Rattle.model.specs.Sweeping.{relinked}
use Rattle.model.specs.inner.Laid.{Laid}
use Rattle.model.proofs.Sizes.{start_eight, zero_even}
use Rattle.model.proofs.items.Offsets.{items_off}
use Rattle.model.proofs.pictures.Drawn.{times_append, head_of_lem}
use Rattle.model.proofs.sweeps.Relinked.{relinked_visits}
use Rattle.relinking.specs.Relink.{listing, in_front, Became, Gathered, LevelReady, LevelsPushed, ClassReady, ClassLinked}
use Rattle.relinking.proofs.Front.{became_length, became_bytes, became_as, head_became, listing_laid, front_list, front_then}
use Rattle.relinking.proofs.Rising.{gathered_listing}

-- where a list ends in 0, what follows that is of no account
head_front : (xs ys : List ℕ) → head_of (xs ++ (0 ∷ ys)) ≡ head_of xs
unfolding head_of
head_front [] ys = refl
head_front (x ∷ xs) ys = refl

next_front : (o : ℕ) (xs ys : List ℕ) → 1 ≤ times o xs → next_of o (xs ++ (0 ∷ ys)) ≡ next_of o xs
unfolding next_of times
next_front o [] ys l = absurd (omega arith)
next_front o (x ∷ xs) ys l = go (ℕ_discrete o x) (next_front o xs ys)
  where
    go : Dec (o ≡ x) → (1 ≤ times o xs → next_of o (xs ++ (0 ∷ ys)) ≡ next_of o xs) → next_of o (x ∷ (xs ++ (0 ∷ ys))) ≡ next_of o (x ∷ xs)
    go (yes e) r = rw (eq-eqb o x e) (head_front xs ys)
    go (no e) r = rw (ne_eqb o x e) (r (omega (arith, rw (ne_eqb o x e) at l)))

-- and a 0 in front is passed over
next_past : (o : ℕ) (ys : List ℕ) → (o ≡ 0 → ⊥) → next_of o (0 ∷ ys) ≡ next_of o ys
unfolding next_of
next_past o ys n = rw (ne_eqb o 0 n) refl

-- the head is 0, and what was listed still follows
module _ {w : ℕ} (wd : Width w) {b : List ℕ} (bytes : Bytes b) (short : length b ≤ (shape w).most) {L : Layout} (h : Laid w b L) {c : ℕ} (cl : c < (shape w).classes) where
  -- free items have offsets
  not_zero : (o : ℕ) → 1 ≤ times o (idle_items (shape w) c (start (shape w)) L.blocks) → o ≡ 0 → ⊥
  not_zero o i e = omega (arith, (items_off wd c o (start (shape w)) L.blocks h.tiled.allowed (omega arith) (start_eight wd) i).low)

  zero_named : {P : ℕ → Type 0} → P 0 → ((o : ℕ) → 1 ≤ times o (get_or L.lists c []) → P o) → (o : ℕ) → 1 ≤ times o (0 ∷ get_or L.lists c []) → P o
  unfolding times
  zero_named {P} z old o l = go (ℕ_discrete o 0)
    where
      go : Dec (o ≡ 0) → P o
      go (yes e) = rw e z
      go (no e) = old o (omega (arith, rw (ne_eqb o 0 e) at l))

  zero_became : (head : ℕ) → head ≡ head_at (shape w) c → {d : List ℕ} → d ≡ put w b head 0 → Became w b (in_front c (0 ∷ []) L) d
  unfolding head_of
  zero_became head eh {d} e =
      subst (λ (y : List ℕ). Became w b (in_front c (0 ∷ []) L) y) (sym (e ∙ ap (λ (y : ℕ). put w b y 0) eh))
      (head_became wd bytes short h cl (0 ∷ get_or L.lists c []) (zero_named {P = λ o. o ≤ end_of (length b)} (omega arith) (h.tiled.below c)) (zero_named {P = λ o. o % w ≡ 0} (zero_even wd 0 refl) (h.aligned c))
      (λ o i. next_past o (get_or L.lists c []) (not_zero o i)) (omega arith))

-- a list that visits every free item, with 0 after it and what was listed, is as good as that list alone
module _ {w : ℕ} (wd : Width w) {b : List ℕ} (bytes : Bytes b) (short : length b ≤ (shape w).most) (L : Layout) (c : ℕ) (cl : c < (shape w).classes) (new : List ℕ) {d : List ℕ} (k : Became w b (in_front c (new ++ (0 ∷ [])) L) d)
    (visits : (o : ℕ) → times o new ≡ times o (idle_items (shape w) c (start (shape w)) L.blocks)) where
  list_now : get_or (in_front c (new ++ (0 ∷ [])) L).lists c [] ≡ new ++ (0 ∷ get_or L.lists c [])
  list_now = front_list wd bytes short L c cl (new ++ (0 ∷ [])) k ∙ append_assoc new (0 ∷ []) (get_or L.lists c [])

  named : (o : ℕ) → 1 ≤ times o new → 1 ≤ times o (get_or (in_front c (new ++ (0 ∷ [])) L).lists c [])
  named o l = rw list_now (omega (arith, l, times_append o new (0 ∷ get_or L.lists c [])))

  low : (o : ℕ) → 1 ≤ times o new → o ≤ end_of (length d)
  low o l = k.laid.tiled.below c o (named o l)

  new_laid : Laid w d (listing c new (in_front c (new ++ (0 ∷ [])) L))
  new_laid =
      listing_laid wd (became_bytes k bytes) (omega (arith, became_length k, short)) k.laid cl new low (λ o l. k.laid.aligned c o (named o l))
      (λ o i. sym (ap (next_of o) list_now ∙ next_front o new (get_or L.lists c []) (omega (arith, i, visits o))))
      (⊎_elim (λ e. omega (arith, e)) (λ e. low (head_of new) e) (head_of_lem new))
      (sym (ap head_of list_now ∙ head_front new (get_or L.lists c [])))

  pub alone : Became w b (listing c new L) d
  alone =
      subst (λ (ls : List (List ℕ)). Became w b (record { blocks = L.blocks; lists = ls }) d) (set-set L.lists c ((new ++ (0 ∷ [])) ++ get_or L.lists c []) new)
      (became_as wd bytes short k new_laid refl)

-- the head is set to 0, and then the levels are pushed
module _ {w : ℕ} {b : List ℕ} {c : ℕ} (r : ClassReady w b c) (bytes : Bytes b) {table : List ℕ} (g : (L : Layout) → Laid w b L → Gathered w c L table) (head : ℕ) (eh : head ≡ head_at (shape w) c) {h : List ℕ} (e : h ≡ put w b head 0) where
  emptied : (L : Layout) → Laid w b L → Became w b (in_front c (0 ∷ []) L) h
  emptied L y = zero_became r.width bytes r.short y r.class head eh e

  pub emptied_level : LevelReady w h c table
  emptied_level =
      let z = emptied r.layout r.laid in
      record { width = r.width; layout = in_front c (0 ∷ []) r.layout; laid = z.laid; short = omega (arith, became_length z, r.short); class = r.class; gathered = gathered_listing (0 ∷ get_or r.layout.lists c []) (g r.layout r.laid) }

  pub class_linked : {d : List ℕ} → LevelsPushed w h c table d → ClassLinked w b c d
  class_linked {d} p =
      record {
        is = λ L y.
            let z = emptied L y in
            let new = relinked (shape w) ((shape w).per_page c) c L.blocks in
            alone r.width bytes r.short L c r.class new
            (front_then r.width bytes r.short L c r.class (0 ∷ []) z new (p.is (in_front c (0 ∷ []) L) z.laid (gathered_listing (0 ∷ get_or L.lists c []) (g L y))))
            (λ o. relinked_visits (shape w) o c L.blocks y.tiled.allowed);
      }

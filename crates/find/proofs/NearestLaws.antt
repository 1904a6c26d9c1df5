-- The last free block below an address, found along the list of the free ones.
use Rattle.std.proofs.Common.{ℕ, ◌+◌, ◌*◌, ◌≤◌, ◌<◌, ◌≡◌, refl, sym, ap, subst, ◌∙◌, ◌⊎◌, ⊎_elim, Bool, false, List, [], ◌∷◌, ◌++◌, append_assoc, arith, length, eqb, eq-eqb, ne_eqb}
use Rattle.std.proofs.Math.Decide.{ℕ_discrete}
use Rattle.words.specs.Width.{Width}
use Rattle.words.specs.Word.{word_at}
use Rattle.model.specs.Shape.{shape, start, end_of}
use Rattle.model.specs.Parts.{size_in, first_free_at, next_at}
use Rattle.model.specs.Picture.{Shows}
use Rattle.model.specs.Layout.{Use, Block, free, used, Layout, if_free, size_of, ends, first_free, own}
use Rattle.model.specs.Sound.{Here}
use Rattle.model.specs.inner.Walks.{flag, last_free, ends_free, Standing, Passed}
use Rattle.model.proofs.blocks.Blocks.{ends_append, le_ends, last_append}
use Rattle.model.proofs.blocks.FreeWalk.{left, first_read, here_room}
use Rattle.model.proofs.blocks.Releasing.{left_side}
use Rattle.model.proofs.blocks.Valid.{ends_free_append}
use Rattle.model.proofs.walks.Standing.{Met, met, there, size_is}
use Rattle.model.proofs.items.Aligned.{laid}
use Rattle.model.proofs.walks.Passing.{pass_start, pass}
use Rattle.find.specs.Find.{behind_at, touches_at, Between, Clear, Nearest}

module _ {w : ℕ} {L : Layout} {p prev left next : ℕ} (s : Between w L p prev left next) where
  abbrev pub standing : Standing w L p prev left
  standing = record { pre = s.pre; rest = s.rest; blocks = s.passed.blocks; begins = s.passed.begins; before = s.before; touches = s.touches }

  -- the walk goes on behind the block x
  over : (x : Block) (after : List Block) → s.rest ≡ x ∷ after → (n : ℕ) → first_free (shape w) (p + size_of (shape w) x) after 0 ≡ n → Between w L (p + size_of (shape w) x) (if_free x p prev) (if_free x 1 0) n
  unfolding last_free ends_free
  over x after e n f =
      record {
        pre = s.pre ++ (x ∷ []);
        rest = after;
        passed = pass s.passed x after e;
        before = last_append (shape w) (start (shape w)) s.pre (x ∷ []) 0 ∙ rw (s.passed.begins, s.before) refl;
        touches = ends_free_append 0 s.pre (x ∷ []);
        onward = f;
      }

  -- a block in use changes nothing of what comes next
  pub over_used : (u : Use) (after : List Block) → s.rest ≡ used u ∷ after → Between w L (p + size_of (shape w) (used u)) prev 0 next
  unfolding first_free
  over_used u after e = over (used u) after e next (ap (λ (l : List Block). first_free (shape w) p l 0) (sym e) ∙ s.onward)

  pub low : start (shape w) ≤ p
  low = omega (arith, s.passed.begins, le_ends (shape w) (start (shape w)) s.pre)

module _ {w : ℕ} (wd : Width w) {b : List ℕ} {L : Layout} (h : Here (shape w) b L) where
  -- the free block at next, as the walk comes to it
  pub record Reached (p next : ℕ) : Type 0 where
    pub above : p ≤ next
    pub least : 4 * w ≤ word_at w b next
    pub inside : next + word_at w b next ≤ end_of (length b)
    pub beyond : Between w L (next + word_at w b next) next 1 (word_at w b (next_at (shape w) next))

  reach_free : {p prev left next : ℕ} (s : Between w L p prev left next) (n : ℕ) (after : List Block) → s.rest ≡ free n ∷ after → Reached p next
  unfolding first_free size_of own Shows
  reach_free {p} {prev} {left} {next} s n after e =
      let m : Met w b L p prev (free n) after = met wd (laid wd h) (standing s) (free n) after e in
      let q : p ≡ next = ap (λ (l : List Block). first_free (shape w) p l 0) (sym e) ∙ s.onward in
      let here : Reached p p = record { above = omega arith; least = omega (arith, m.least, m.shown.0); inside = omega (arith, m.inside, m.shown.0); beyond = rw m.shown.0 (over s (free n) after e (word_at w b (next_at (shape w) p)) (sym m.shown.1.0)) } in
      subst (λ (x : ℕ). Reached p x) q here

  reach : (r : List Block) (p prev left next : ℕ) (s : Between w L p prev left next) → s.rest ≡ r → (next ≡ 0 → ⊥) → Reached p next
  unfolding first_free over over_used
  reach [] p prev left next s e z = absurd (z (sym s.onward ∙ ap (λ (l : List Block). first_free (shape w) p l 0) e))
  reach (free n ∷ after) p prev left next s e z = reach_free s n after e
  reach (used u ∷ after) p prev left next s e z =
      let r = reach after (p + size_of (shape w) (used u)) prev 0 next (over_used s u after e) refl z in
      record { above = omega (arith, r.above); least = r.least; inside = r.inside; beyond = r.beyond }

  pub between_start : Between w L (start (shape w)) 0 0 (word_at w b (first_free_at (shape w)))
  unfolding last_free ends_free
  between_start = record { pre = []; rest = L.blocks; passed = pass_start w L; before = refl; touches = refl; onward = sym (first_read (shape w) b L h) }

  pub reached : {p prev left next : ℕ} (s : Between w L p prev left next) → (next ≡ 0 → ⊥) → Reached p next
  reached {p} {prev} {left} {next} s z = reach s.rest p prev left next s refl z

pub behind_free : (w : ℕ) (b : List ℕ) (p : ℕ) → (p ≡ 0 → ⊥) → behind_at w b p ≡ p + word_at w b p
unfolding behind_at
behind_free w b p z = rw (ne_eqb p 0 z)

pub behind_none : (w : ℕ) (b : List ℕ) (p : ℕ) → p ≡ 0 → behind_at w b p ≡ start (shape w)
unfolding behind_at
behind_none w b p z = rw (eq-eqb p 0 z)

pub touches_none : (prev begin p : ℕ) → prev ≡ 0 → false ≡ touches_at prev begin p
unfolding touches_at
touches_none prev begin p z = rw (eq-eqb prev 0 z)

pub touches_some : (prev begin p : ℕ) → (prev ≡ 0 → ⊥) → eqb p begin ≡ touches_at prev begin p
unfolding touches_at
touches_some prev begin p z = rw (ne_eqb prev 0 z)

-- no block but the one that begins there is touched
pub touches_not : (prev begin p : ℕ) → begin < p → touches_at prev begin p ≡ false
touches_not prev begin p l = go (ℕ_discrete prev 0)
  where
    go : Dec (prev ≡ 0) → touches_at prev begin p ≡ false
    go (yes z) = sym (touches_none prev begin p z)
    go (no z) = sym (touches_some prev begin p z) ∙ ne_eqb p begin (λ e. omega arith)

pub touches_free : (p q : ℕ) → (p ≡ 0 → ⊥) → flag (touches_at p q q) ≡ 1
unfolding touches_at
touches_free p q z = rw (ne_eqb p 0 z, eq-eqb q q refl)

-- the walk along the list stands right behind the free block at prev, or before all blocks where prev is 0; next is the list's next
pub record Along (w : ℕ) (b : List ℕ) (L : Layout) (a prev next : ℕ) : Type 0 where
  pub low : prev ≤ a
  pub room : prev + w ≤ length b
  pub between : Between w L (behind_at w b prev) prev (flag (touches_at prev (behind_at w b prev) (behind_at w b prev))) next

module _ {w : ℕ} (wd : Width w) {b : List ℕ} {L : Layout} (h : Here (shape w) b L) where
  pub along_start : (a next at : ℕ) → at ≡ first_free_at (shape w) → next ≡ word_at w b at → Along w b L a 0 next
  unfolding behind_at touches_at
  along_start a next at f e = rw (e, f) (record { low = omega arith; room = omega (arith, here_room (shape w) b L h); between = between_start wd h })

  module _ {a prev next : ℕ} (s : Along w b L a prev next) where
    pub nearest : (next ≡ 0) ⊎ (a ≤ next) → Nearest w b L a prev
    nearest e = record { low = s.low; room = s.room; clear = record { next = next; between = s.between; above = e } }

    module _ (z : next ≡ 0 → ⊥) where
      pub along_room : next + 4 * w ≤ length b
      along_room = let r = reached wd h s.between z in omega (arith, r.least, r.inside)

      module _ (at n : ℕ) (f : at ≡ next_at (shape w) next) (e : n ≡ word_at w b at) where
        pub along_next : next ≤ a → Along w b L a next n
        along_next l =
            record {
              low = l;
              room = omega (arith, along_room);
              between = rw (touches_free next (behind_at w b next) z, behind_free w b next z, e, f) (reached wd h s.between z).beyond;
            }

        pub along_less : left (length b) n < left (length b) next
        unfolding left
        along_less = go (ℕ_discrete n 0)
          where
            go : Dec (n ≡ 0) → left (length b) n < left (length b) next
            go (yes y) = rw (ne_eqb next 0 z, y) (omega (arith, along_room, wd))
            go (no y) =
                let r = reached wd h s.between z in
                let q = reached wd h (rw (← f, ← e) at r.beyond) y in
                rw (ne_eqb next 0 z, ne_eqb n 0 y) (omega (arith, r.least, q.above, q.inside, wd))

module _ {w : ℕ} (wd : Width w) {b : List ℕ} {L : Layout} (h : Here (shape w) b L) {a p prev : ℕ} {touching : Bool} (s : Clear w L a p prev touching) where
  -- a block that ends at or below a, from where no free block begins below a, is in use
  pub clear_past : (t : ℕ) → t ≡ word_at w b p → p < a → a < end_of (length b) → p + size_in t ≤ a → Clear w L a (p + size_in t) prev false
  unfolding first_free
  clear_past t e l m f =
      let x = there wd (laid wd h) (standing s.between) (omega arith) in go x.block x.after x.rest x.met
    where
      go : (x : Block) (after : List Block) → s.between.rest ≡ x ∷ after → Met w b L p prev x after → Clear w L a (p + size_in t) prev false
      go (free n) after r y =
          let q : p ≡ s.next = ap (λ (k : List Block). first_free (shape w) p k 0) (sym r) ∙ s.between.onward in
          absurd (⊎_elim (λ z. omega (arith, low s.between)) (λ z. omega arith) s.above)
      go (used u) after r y =
          record {
            next = s.next;
            between = rw (← size_is wd (laid wd h) (standing s.between) t e (omega arith) (used u) after y) (over_used s.between u after r);
            above = s.above;
          }

  pub clear_room : p ≤ end_of (length b)
  clear_room =
      let fills : ends (shape w) (start (shape w)) (s.between.pre ++ s.between.rest) ≡ end_of (length b) = subst (λ (l : List Block). ends (shape w) (start (shape w)) l ≡ end_of (length b)) s.between.passed.blocks h.valid.fills in
      let f : ends (shape w) p s.between.rest ≡ end_of (length b) = rw (ends_append (shape w) (start (shape w)) s.between.pre s.between.rest, s.between.passed.begins) at fills in
      omega (arith, f, le_ends (shape w) p s.between.rest)

-- what the free block at prev covers: the walk before it
pub record Gap (w : ℕ) (L : Layout) (prev behind : ℕ) : Type 0 where
  pub pre : List Block
  pub rest : List Block
  pub size : ℕ
  pub passed : Passed w L prev pre (free size ∷ rest)
  pub reach : prev + size ≡ behind

pub gap : {w : ℕ} {L : Layout} {p prev next : ℕ} → Between w L p prev 1 next → Gap w L prev p
unfolding ends last_free size_of
gap {w} {L} {p} {prev} {next} s =
    let v = left_side s.pre s.touches in
    let e : ends (shape w) (start (shape w)) v.0 + v.1 ≡ p = sym (ends_append (shape w) (start (shape w)) v.0 (free v.1 ∷ [])) ∙ ap (λ (l : List Block). ends (shape w) (start (shape w)) l) (sym v.2) ∙ s.passed.begins in
    let f : ends (shape w) (start (shape w)) v.0 ≡ prev = sym (last_append (shape w) (start (shape w)) v.0 (free v.1 ∷ []) 0) ∙ ap (λ (l : List Block). last_free (shape w) (start (shape w)) l 0) (sym v.2) ∙ s.before in
    record {
      pre = v.0;
      rest = s.rest;
      size = v.1;
      passed = record { blocks = s.passed.blocks ∙ ap (λ (l : List Block). l ++ s.rest) v.2 ∙ append_assoc v.0 (free v.1 ∷ []) s.rest; begins = f };
      reach = omega (arith, e, f);
    }

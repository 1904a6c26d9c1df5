-- What the code that takes an item reads.
use Rattle.std.proofs.Common.{ℕ, ◌+◌, ◌*◌, ◌≤◌, ◌<◌, ◌≡◌, refl, sym, ap, ◌∙◌, List, [], ◌∷◌, arith, length, get_or, eq-eqb}
use Rattle.words.specs.Word.{word_at}
use Rattle.words.specs.Width.{Width}
use Rattle.model.specs.Shape.{shape, end_of, index, start}
use Rattle.model.specs.Parts.{next_in}
use Rattle.model.specs.Layout.{Layout, head_of, next_of}
use Rattle.model.specs.Sound.{Here}
use Rattle.model.proofs.Sizes.{next_idle}
use Rattle.model.proofs.items.Aligned.{next_aligned}
use Rattle.model.proofs.items.Items.{blocks_range}
use Rattle.model.proofs.Good.{shape_good}
use Rattle.model.proofs.items.Pop.{found, counted}
use Rattle.model.proofs.pictures.Shown.{head_read, item_read}

pub record PopReads (w : ℕ) (b : List ℕ) (o x : ℕ) (os : List ℕ) : Type 0 where
  pub next : next_in (shape w) x ≡ head_of os
  pub inside : index (shape w) + o + (8 + 2 * w) ≤ length b

module _ {w : ℕ} (wd : Width w) (b : List ℕ) (L : Layout) (h : Here (shape w) b L) (c : ℕ) (cl : c < 4 * w) where
  -- a list whose head is no 0 has a first item
  pub first_item : (o : ℕ) → o ≡ word_at w b (index (shape w) + w * c) → (o ≡ 0 → ⊥) → (os : List ℕ) × (get_or L.lists c [] ≡ o ∷ os)
  unfolding head_of
  first_item o e z = go (get_or L.lists c []) refl
    where
      go : (l : List ℕ) → get_or L.lists c [] ≡ l → (os : List ℕ) × (get_or L.lists c [] ≡ o ∷ os)
      go [] k = absurd (z (e ∙ head_read (shape w) b L h c cl ∙ ap head_of k))
      go (x ∷ xs) k = (xs, k ∙ ap (λ (y : ℕ). y ∷ xs) (sym (e ∙ head_read (shape w) b L h c cl ∙ ap head_of k)))

  module _ (o : ℕ) (os : List ℕ) (is : get_or L.lists c [] ≡ o ∷ os) (short : length b ≤ (shape w).most) where
    pub pop_reads : PopReads w b o (word_at w b (index (shape w) + o)) os
    unfolding next_of
    pop_reads =
        let r = item_read (shape w) b L h c o (counted (shape w) (shape_good wd) b L h c o os cl is short) in
        let e : next_of o (get_or L.lists c []) ≡ head_of os = ap (λ (l : List ℕ). next_of o l) is ∙ rw (eq-eqb o o refl) refl in
        let g = blocks_range (shape w) c (index (shape w) + o) (start (shape w)) L.blocks (found (shape w) (shape_good wd) b L h c o os cl is short).there in
        record { next = ap (next_in (shape w)) r ∙ next_idle wd c (next_of o (get_or L.lists c [])) cl (next_aligned wd (end_of (length b)) L h.valid c o cl) ∙ e; inside = omega (arith, g.1, h.valid.fills) }

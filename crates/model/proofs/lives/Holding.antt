-- What is found at an address lies within the heap, holds something, and was asked for within its class.
use Rattle.std.proofs.Common.{ℕ, ◌+◌, ◌-◌, ◌*◌, ◌≤◌, ◌<◌, ◌≡◌, List, [], ◌∷◌, arith, length, eq-eqb, ne_eqb}
use Rattle.std.proofs.Math.Decide.{ℕ_discrete}
use Rattle.words.specs.Width.{Width}
use Rattle.model.specs.Shape.{shape, item_size, address_of, least_variable}
use Rattle.model.specs.Layout.{Slot, idle, held, variable, page, Block, free, used, use_size, size_of, ends}
use Rattle.model.specs.Sound.{Within, AllWithin, Allowed, AllowedUse, AllAllowed}
use Rattle.model.specs.Rules.{Found, block, thing, nothing, behind, or_else, in_slots, find_from, capacity, shown_of}
use Rattle.model.proofs.blocks.Blocks.{le_ends}
use Rattle.model.proofs.items.Asked.{shown_within}

-- what is found at a ends by hi, and is as large as allowed
unfoldable pub EndsBy : ℕ → ℕ → ℕ → Found → Type 0
EndsBy w a hi nothing = Unit {0}
EndsBy w a hi (block t) = (least_variable (shape w) ≤ t.size) × (a + (t.size - 2 * w) ≤ hi)
EndsBy w a hi (thing o c n) = (c < 4 * w) × (a + (8 * c + 8) ≤ hi) × Within c (held n)

module _ {w : ℕ} (wd : Width w) where
  by_behind : (a hi : ℕ) (b : Block) (f : Found) → EndsBy w a hi f → EndsBy w a hi (behind b f)
  unfolding EndsBy
  by_behind a hi b nothing e = e
  by_behind a hi b (block t) e = e
  by_behind a hi b (thing o c n) e = e

  by_either : (a hi : ℕ) (f g : Found) → EndsBy w a hi f → EndsBy w a hi g → EndsBy w a hi (or_else f g)
  unfolding EndsBy
  by_either a hi nothing g e k = k
  by_either a hi (block t) g e k = e
  by_either a hi (thing o c n) g e k = e

  slots_by : (a c p hi : ℕ) (ss : List Slot) → c < 4 * w → p + length ss * item_size (shape w) c ≤ hi → AllWithin c ss → EndsBy w a hi (in_slots (shape w) a c p ss)
  unfolding in_slots AllWithin EndsBy
  slots_by a c p hi [] l h al = tt
  slots_by a c p hi (idle ∷ ss) l h al = slots_by a c (p + item_size (shape w) c) hi ss l (omega arith) al.1
  slots_by a c p hi (held n ∷ ss) l h al = go (ℕ_discrete a (address_of (shape w) p)) (slots_by a c (p + item_size (shape w) c) hi ss l (omega arith) al.1)
    where
      go : Dec (a ≡ address_of (shape w) p) → EndsBy w a hi (in_slots (shape w) a c (p + item_size (shape w) c) ss) → EndsBy w a hi (in_slots (shape w) a c p (held n ∷ ss))
      go (yes e) r = rw (eq-eqb a (address_of (shape w) p) e) (l, omega arith, al.0)
      go (no k) r = rw (ne_eqb a (address_of (shape w) p) k) r

  pub find_by : (a p : ℕ) (bs : List Block) → AllAllowed (shape w) bs → EndsBy w a (ends (shape w) p bs) (find_from (shape w) a p bs)
  unfolding find_from AllAllowed Allowed AllowedUse ends size_of use_size EndsBy
  find_by a p [] al = tt
  find_by a p (free s ∷ bs) al = by_behind a (ends (shape w) (p + s) bs) (free s) (find_from (shape w) a (p + s) bs) (find_by a (p + s) bs al.1)
  find_by a p (used (variable s) ∷ bs) al = go (ℕ_discrete a (address_of (shape w) p)) (find_by a (p + s) bs al.1)
    where
      go : Dec (a ≡ address_of (shape w) p) → EndsBy w a (ends (shape w) (p + s) bs) (find_from (shape w) a (p + s) bs) → EndsBy w a (ends (shape w) (p + s) bs) (find_from (shape w) a p (used (variable s) ∷ bs))
      go (yes e) r = rw (eq-eqb a (address_of (shape w) p) e) (al.0.0, omega (arith, le_ends (shape w) (p + s) bs, al.0.0))
      go (no n) r = rw (ne_eqb a (address_of (shape w) p) n) (by_behind a (ends (shape w) (p + s) bs) (used (variable s)) (find_from (shape w) a (p + s) bs) r)
  find_by a p (used (page c k ss) ∷ bs) al =
      by_either a (ends (shape w) (p + use_size (shape w) (page c k ss)) bs) (in_slots (shape w) a c (p + w) ss) (behind (used (page c k ss)) (find_from (shape w) a (p + use_size (shape w) (page c k ss)) bs))
      (slots_by a c (p + w) (ends (shape w) (p + use_size (shape w) (page c k ss)) bs) ss al.0.0 (omega (arith, le_ends (shape w) (p + use_size (shape w) (page c k ss)) bs)) al.0.4)
      (by_behind a (ends (shape w) (p + use_size (shape w) (page c k ss)) bs) (used (page c k ss)) (find_from (shape w) a (p + use_size (shape w) (page c k ss)) bs) (find_by a (p + use_size (shape w) (page c k ss)) bs al.1))

  -- no more is shown of it than it holds
  pub shown_most : (a hi : ℕ) (f : Found) → EndsBy w a hi f → shown_of (shape w) f ≤ capacity (shape w) f
  unfolding EndsBy
  shown_most a hi nothing e = omega arith
  shown_most a hi (block t) e = omega arith
  shown_most a hi (thing o c n) e = shown_within (shape w) c n e.2

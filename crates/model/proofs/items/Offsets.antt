-- Where the free items of a layout are, and that each is there once.
use Rattle.std.proofs.Common.{ℕ, suc, ◌+◌, ◌-◌, ◌*◌, ◌%◌, ◌≤◌, ◌≡◌, Bool, true, false, cond, List, [], ◌∷◌, ◌++◌, arith, length, eqb, eq-eqb, ne_eqb}
use Rattle.std.proofs.Math.Decide.{ℕ_discrete, dec_le}
use Rattle.words.specs.Width.{Width}
use Rattle.model.specs.Shape.{shape, item_size, index}
use Rattle.model.specs.Layout.{Slot, idle, held, variable, page, Block, free, used, use_size, size_of, ends}
use Rattle.model.specs.Sound.{times, AllAllowed, idle_slots, idle_in, idle_items}
use Rattle.model.proofs.blocks.Blocks.{le_ends}
use Rattle.model.proofs.pictures.Drawn.{times_append}
use Rattle.model.proofs.Sizes.{first_even, item_even, offset_even}
use Rattle.model.proofs.walks.Standing.{sizes}

-- the offsets of a page's free items, and of blocks': where they are, that they are multiples of a word, and each but once
pub record Off (w o p hi : ℕ) : Type 0 where
  pub low : p ≤ index (shape w) + o
  pub high : index (shape w) + o + (8 + w) ≤ hi
  pub even : o % w ≡ 0

module _ {w : ℕ} (wd : Width w) where
  pub slots_off : (c o p : ℕ) (ss : List Slot) → (index (shape w)) ≤ p → p % w ≡ 0 → 1 ≤ times o (idle_slots (shape w) c p ss) → Off w o p (p + length ss * item_size (shape w) c)
  unfolding idle_slots times
  slots_off c o p [] h m k = absurd (omega arith)
  slots_off c o p (idle ∷ ss) h m k = go (ℕ_discrete o (p - (index (shape w)))) (slots_off c o (p + item_size (shape w) c) ss (omega arith) (item_even wd p c m))
    where
      go : Dec (o ≡ p - (index (shape w))) → (1 ≤ times o (idle_slots (shape w) c (p + item_size (shape w) c) ss) → Off w o (p + item_size (shape w) c) (p + item_size (shape w) c + length ss * item_size (shape w) c)) → Off w o p (p + suc (length ss) * item_size (shape w) c)
      go (yes e) r = record { low = omega arith; high = omega arith; even = rw e (offset_even wd p h m) }
      go (no e) r = let z = r (omega (arith, rw (ne_eqb o (p - (index (shape w))) e) at k)) in record { low = omega (arith, z.low); high = omega (arith, z.high); even = z.even }
  slots_off c o p (held n ∷ ss) h m k = let z = slots_off c o (p + item_size (shape w) c) ss (omega arith) (item_even wd p c m) k in record { low = omega (arith, z.low); high = omega (arith, z.high); even = z.even }

  slots_once : (c o p : ℕ) (ss : List Slot) → (index (shape w)) ≤ p → p % w ≡ 0 → times o (idle_slots (shape w) c p ss) ≤ 1
  unfolding idle_slots times
  slots_once c o p [] h m = omega arith
  slots_once c o p (held n ∷ ss) h m = slots_once c o (p + item_size (shape w) c) ss (omega arith) (item_even wd p c m)
  slots_once c o p (idle ∷ ss) h m = go (ℕ_discrete o (p - (index (shape w)))) (dec_le 1 (times o (idle_slots (shape w) c (p + item_size (shape w) c) ss))) (slots_once c o (p + item_size (shape w) c) ss (omega arith) (item_even wd p c m))
    where
      go : Dec (o ≡ p - (index (shape w))) → Dec (1 ≤ times o (idle_slots (shape w) c (p + item_size (shape w) c) ss)) → times o (idle_slots (shape w) c (p + item_size (shape w) c) ss) ≤ 1 → cond (eqb o (p - (index (shape w)))) 1 0 + times o (idle_slots (shape w) c (p + item_size (shape w) c) ss) ≤ 1
      go (no e) d r = rw (ne_eqb o (p - (index (shape w))) e) (omega arith)
      go (yes e) (no n) r = rw (eq-eqb o (p - (index (shape w))) e) (omega arith)
      go (yes e) (yes n) r = absurd (omega (arith, (slots_off c o (p + item_size (shape w) c) ss (omega arith) (item_even wd p c m) n).low))

  in_off : (c o p : ℕ) (b : Block) → (index (shape w)) ≤ p → p % 8 ≡ 0 → 1 ≤ times o (idle_in (shape w) c p b) → Off w o (p + w) (p + size_of (shape w) b)
  unfolding idle_in size_of use_size times
  in_off c o p (free s) h m k = absurd (omega arith)
  in_off c o p (used (variable s)) h m k = absurd (omega arith)
  in_off c o p (used (page d j ss)) h m k = go (ℕ_discrete c d)
    where
      go : Dec (c ≡ d) → Off w o (p + w) (p + (2 * w + length ss * item_size (shape w) d + j))
      go (yes e) = let z = slots_off d o (p + w) ss (omega arith) (first_even wd p m) (rw (eq-eqb c d e) at k) in record { low = z.low; high = omega (arith, z.high); even = z.even }
      go (no e) = absurd (omega (arith, rw (ne_eqb c d e) at k))

  in_once : (c o p : ℕ) (b : Block) → (index (shape w)) ≤ p → p % 8 ≡ 0 → times o (idle_in (shape w) c p b) ≤ 1
  unfolding idle_in times
  in_once c o p (free s) h m = omega arith
  in_once c o p (used (variable s)) h m = omega arith
  in_once c o p (used (page d j ss)) h m = go (eqb c d)
    where
      go : (t : Bool) → times o (cond t (idle_slots (shape w) d (p + w) ss) []) ≤ 1
      go true = slots_once d o (p + w) ss (omega arith) (first_even wd p m)
      go false = omega arith

  pub items_off : (c o p : ℕ) (bs : List Block) → AllAllowed (shape w) bs → (index (shape w)) ≤ p → p % 8 ≡ 0 → 1 ≤ times o (idle_items (shape w) c p bs) → Off w o (p + w) (ends (shape w) p bs)
  unfolding idle_items ends AllAllowed
  items_off c o p [] a h m k = absurd (unfold times in omega arith)
  items_off c o p (b ∷ bs) a h m k = go (dec_le 1 (times o (idle_in (shape w) c p b))) (items_off c o (p + size_of (shape w) b) bs a.1 (omega arith) (omega (arith, (sizes wd b a.0).1)))
    where
      go : Dec (1 ≤ times o (idle_in (shape w) c p b)) → (1 ≤ times o (idle_items (shape w) c (p + size_of (shape w) b) bs) → Off w o (p + size_of (shape w) b + w) (ends (shape w) (p + size_of (shape w) b) bs)) → Off w o (p + w) (ends (shape w) (p + size_of (shape w) b) bs)
      go (yes i) r = let z = in_off c o p b h m i in record { low = z.low; high = omega (arith, z.high, le_ends (shape w) (p + size_of (shape w) b) bs); even = z.even }
      go (no n) r = let z = r (omega (arith, times_append o (idle_in (shape w) c p b) (idle_items (shape w) c (p + size_of (shape w) b) bs))) in record { low = omega (arith, z.low); high = z.high; even = z.even }

  pub items_once : (c o p : ℕ) (bs : List Block) → AllAllowed (shape w) bs → (index (shape w)) ≤ p → p % 8 ≡ 0 → times o (idle_items (shape w) c p bs) ≤ 1
  unfolding idle_items AllAllowed
  items_once c o p [] a h m = unfold times in omega arith
  items_once c o p (b ∷ bs) a h m = go (dec_le 1 (times o (idle_in (shape w) c p b))) (dec_le 1 (times o (idle_items (shape w) c (p + size_of (shape w) b) bs))) (items_once c o (p + size_of (shape w) b) bs a.1 (omega arith) (omega (arith, (sizes wd b a.0).1)))
    where
      t : times o (idle_in (shape w) c p b ++ idle_items (shape w) c (p + size_of (shape w) b) bs) ≡ times o (idle_in (shape w) c p b) + times o (idle_items (shape w) c (p + size_of (shape w) b) bs)
      t = times_append o (idle_in (shape w) c p b) (idle_items (shape w) c (p + size_of (shape w) b) bs)

      go : Dec (1 ≤ times o (idle_in (shape w) c p b)) → Dec (1 ≤ times o (idle_items (shape w) c (p + size_of (shape w) b) bs)) → times o (idle_items (shape w) c (p + size_of (shape w) b) bs) ≤ 1 → times o (idle_in (shape w) c p b ++ idle_items (shape w) c (p + size_of (shape w) b) bs) ≤ 1
      go (no n) d r = omega (arith, t)
      go (yes i) (no n) r = omega (arith, t, in_once c o p b h m)
      go (yes i) (yes j) r = absurd (omega (arith, (in_off c o p b h m i).high, (items_off c o (p + size_of (shape w) b) bs a.1 (omega arith) (omega (arith, (sizes wd b a.0).1)) j).low))

-- The places of items, as positions, offsets and bits of the map: what holds at both word sizes.
use Rattle.std.proofs.Common.{◌≡◌, ℕ, zero, suc, ◌+◌, ◌*◌, ◌/◌, ◌%◌, ◌^◌, ◌<◌, ◌≤◌, sym, refl, ap, ◌∙◌, mul_assoc, mul-div_cancel, arith, bit_or}
use lib.Bits.{or_mod, or_add_and, and_le_l, and_le_r}
use Rattle.words.specs.Width.{Width}
use Rattle.words.proofs.WidthLaws.{widths}
use Rattle.words.proofs.HighLaws.{high_fits, high_none, high_far}
use Rattle.model.specs.Shape.{shape, index, item_size, offset_of}
use Rattle.model.specs.Parts.{free_header, free_mark, class_and_flags, next_in}
use Rattle.marking.specs.Maps.{offset_bit, offset_at_bit, at_bit, map_end, large_map}

-- a number or-ed with another is no less than either
pub or_more : (a b : ℕ) → (a ≤ bit_or a b) × (b ≤ bit_or a b)
or_more a b = (omega (arith, or_add_and a b, and_le_r a b), omega (arith, or_add_and a b, and_le_l a b))

pub or_parts : (a b k : ℕ) → (bit_or a b % 2 ^ k ≡ 0 → (a % 2 ^ k ≡ 0) × (b % 2 ^ k ≡ 0)) × ((a % 2 ^ k ≡ 0) × (b % 2 ^ k ≡ 0) → bit_or a b % 2 ^ k ≡ 0)
or_parts a b k = (λ e. (omega (arith, e, or_mod a b k, or_more (a % 2 ^ k) (b % 2 ^ k)), omega (arith, e, or_mod a b k, or_more (a % 2 ^ k) (b % 2 ^ k))), λ e. or_mod a b k ∙ rw (e.0, e.1) refl)

module _ {w : ℕ} (wd : Width w) where
  -- a bit is one offset's, and no other's
  pub bits_same : (i j : ℕ) → offset_at_bit w i ≡ offset_at_bit w j → i ≡ j
  bits_same i j = widths (λ w. offset_at_bit w i ≡ offset_at_bit w j → i ≡ j) (omega arith) (omega arith) w wd

  pub bits_order : (i j : ℕ) → i ≤ j → at_bit w i ≤ at_bit w j
  bits_order i j = widths (λ w. i ≤ j → at_bit w i ≤ at_bit w j) (omega arith) (omega arith) w wd

  pub bits_less : (i j : ℕ) → i < j → at_bit w i < at_bit w j
  bits_less i j = widths (λ w. i < j → at_bit w i < at_bit w j) (omega arith) (omega arith) w wd

  pub offset_back : (o : ℕ) → o % w ≡ 0 → offset_at_bit w (offset_bit w o) ≡ o
  offset_back o = widths (λ w. o % w ≡ 0 → offset_at_bit w (offset_bit w o) ≡ o) (omega arith) (omega arith) w wd

  pub offset_none : offset_at_bit w 0 ≡ 0
  offset_none = omega arith

  module _ (i : ℕ) where
    pub bit_is : (x : ℕ) → offset_at_bit w i ≡ x → offset_bit w x ≡ i
    bit_is x = widths (λ w. offset_at_bit w i ≡ x → offset_bit w x ≡ i) (omega arith) (omega arith) w wd

    pub offset_zero : offset_at_bit w i ≡ 0 → i ≡ 0
    offset_zero = widths (λ w. offset_at_bit w i ≡ 0 → i ≡ 0) (omega arith) (omega arith) w wd

    pub offset_even : offset_at_bit w i % w ≡ 0
    offset_even = widths (λ w. offset_at_bit w i % w ≡ 0) (omega arith) (omega arith) w wd

    -- a bit before a map's end is one of the map's
    pub bit_room : (n : ℕ) → at_bit w i < map_end w n → i / 64 < n
    bit_room n = widths (λ w. at_bit w i < map_end w n → i / 64 < n) (omega arith) (omega arith) w wd

    -- an item whose header begins before the end has it whole before the end
    pub at_inside : (end : ℕ) → end % 8 ≡ 0 → at_bit w i < end → at_bit w i + w ≤ end
    at_inside end = widths (λ w. end % 8 ≡ 0 → at_bit w i < end → at_bit w i + w ≤ end) (omega arith) (omega arith) w wd

    -- the bit of the next item of class c
    pub bit_step : (c s : ℕ) → s ≡ item_size (shape w) c / w → at_bit w (i + s) ≡ at_bit w i + item_size (shape w) c
    bit_step c s = widths (λ w. s ≡ item_size (shape w) c / w → at_bit w (i + s) ≡ at_bit w i + item_size (shape w) c) (omega arith) (omega arith) w wd

  -- the words of n items of class c are n times those of one
  words_of : (n z c : ℕ) → z ≡ item_size (shape w) c → n * z / w ≡ n * (z / w)
  words_of n z c e =
      let whole : z / w * w ≡ z = rw e (widths (λ w. item_size (shape w) c / w * w ≡ item_size (shape w) c) (omega arith) (omega arith) w wd) in
      ap (λ (x : ℕ). x / w) (ap (λ (x : ℕ). n * x) (sym whole) ∙ sym (mul_assoc n (z / w) w)) ∙ mul-div_cancel (n * (z / w)) (omega (arith, wd.least))

  bits_each : (i q n z c : ℕ) → z ≡ item_size (shape w) c → at_bit w i ≡ q → at_bit w (i + n * (z / w)) ≡ q + n * z
  bits_each i q zero z c e f = omega (arith, f)
  bits_each i q (suc n) z c e f = omega (arith, f, bits_each i q n z c e f, bit_step (i + n * (z / w)) c (z / w) (ap (λ (x : ℕ). x / w) e))

  -- the bit behind n items of class c
  pub bits_stop : (i q n z c : ℕ) → z ≡ item_size (shape w) c → at_bit w i ≡ q → at_bit w (i + n * z / w) ≡ q + n * z
  bits_stop i q n z c e f = ap (λ (x : ℕ). at_bit w (i + x)) (words_of n z c e) ∙ bits_each i q n z c e f

  -- the bit of the item whose header is at q
  pub first_bit : (q o i : ℕ) → q % w ≡ 0 → index (shape w) ≤ q → o ≡ offset_of (shape w) q → i ≡ offset_bit w o → at_bit w i ≡ q
  first_bit q o i =
      widths (λ w. q % w ≡ 0 → index (shape w) ≤ q → o ≡ offset_of (shape w) q → i ≡ offset_bit w o → at_bit w i ≡ q) (omega arith) (omega arith) w wd

  pub bits_within : (i j : ℕ) → at_bit w i ≤ at_bit w j → i ≤ j
  bits_within i j = widths (λ w. at_bit w i ≤ at_bit w j → i ≤ j) (omega arith) (omega arith) w wd

  pub bit_least : (i : ℕ) → i ≤ at_bit w i
  bit_least i = widths (λ w. i ≤ at_bit w i) (omega arith) (omega arith) w wd

  pub map_end_least : (n : ℕ) → 64 * n ≤ map_end w n
  map_end_least n = bit_least (64 * n)

  pub map_end_bound : (n : ℕ) → n ≤ large_map → map_end w n < 2 ^ 32
  map_end_bound n = widths (λ w. n ≤ large_map → map_end w n < 2 ^ 32) (omega arith) (omega arith) w wd

  -- what the header of a free item names
  pub idle_low : (n c : ℕ) → n % w ≡ 0 → c < (shape w).classes → class_and_flags (shape w) (free_header c n) ≡ free_mark c
  idle_low n c =
      widths (λ w. n % w ≡ 0 → c < (shape w).classes → class_and_flags (shape w) (free_header c n) ≡ free_mark c) (omega arith) (omega arith) w wd

  pub header_is : (x c n : ℕ) → class_and_flags (shape w) x ≡ free_mark c → next_in (shape w) x ≡ n → x ≡ free_header c n
  header_is x c n =
      widths (λ w. class_and_flags (shape w) x ≡ free_mark c → next_in (shape w) x ≡ n → x ≡ free_header c n) (omega arith) (omega arith) w wd

  pub header_names : (x c n : ℕ) → class_and_flags (shape w) x ≡ free_mark c → x ≡ free_header c n → next_in (shape w) x ≡ n
  header_names x c n =
      widths (λ w. class_and_flags (shape w) x ≡ free_mark c → x ≡ free_header c n → next_in (shape w) x ≡ n) (omega arith) (omega arith) w wd

  pub next_even : (x : ℕ) → next_in (shape w) x % w ≡ 0
  next_even x = widths (λ w. next_in (shape w) x % w ≡ 0) (omega arith) (omega arith) w wd

  -- y is the difference of a header x and class c's: what follows of its parts, and of the bit that is made of them
  pub next_fits : (y : ℕ) → y < 2 ^ 64 → (y % (16 * w) * (2 ^ 60 / w) < 2 ^ 64) × (y / (16 * w) + y % (16 * w) * (2 ^ 60 / w) < 2 ^ 64)
  next_fits y =
      widths (λ w. y < 2 ^ 64 → (y % (16 * w) * (2 ^ 60 / w) < 2 ^ 64) × (y / (16 * w) + y % (16 * w) * (2 ^ 60 / w) < 2 ^ 64)) (λ h. high_fits (y / 64) (y % 64) (2 ^ 58) 64 (omega arith) (omega arith)) (λ h. high_fits (y / 128) (y % 128) (2 ^ 57) 128 (omega arith) (omega arith)) w wd

  high_beyond : 2 ^ 32 ≤ 2 ^ 60 / w
  high_beyond = widths (λ w. 2 ^ 32 ≤ 2 ^ 60 / w) (omega arith) (omega arith) w wd

  module _ (x y c : ℕ) (few : c < (shape w).classes) (fits : y < 2 ^ 64) (e : (y + free_mark c) % 2 ^ 64 ≡ x) where
    pub near_parts : class_and_flags (shape w) x ≡ free_mark c → (y % (16 * w) ≡ 0) × (y / (16 * w) ≡ offset_bit w (next_in (shape w) x))
    near_parts = widths (λ w. c < (shape w).classes → class_and_flags (shape w) x ≡ free_mark c → (y % (16 * w) ≡ 0) × (y / (16 * w) ≡ offset_bit w (next_in (shape w) x))) (omega (arith, fits, e)) (omega (arith, fits, e)) w wd few

    pub far_part : (class_and_flags (shape w) x ≡ free_mark c → ⊥) → 1 ≤ y % (16 * w)
    far_part = widths (λ w. c < (shape w).classes → (class_and_flags (shape w) x ≡ free_mark c → ⊥) → 1 ≤ y % (16 * w)) (omega (arith, fits, e)) (omega (arith, fits, e)) w wd few

    pub next_near : class_and_flags (shape w) x ≡ free_mark c → y / (16 * w) + y % (16 * w) * (2 ^ 60 / w) ≡ offset_bit w (next_in (shape w) x)
    next_near f = let z = near_parts f in high_none (y / (16 * w)) (y % (16 * w)) (2 ^ 60 / w) z.0 ∙ z.1

    pub next_far : (class_and_flags (shape w) x ≡ free_mark c → ⊥) → 2 ^ 32 ≤ y / (16 * w) + y % (16 * w) * (2 ^ 60 / w)
    next_far f = omega (arith, high_far (y / (16 * w)) (y % (16 * w)) (2 ^ 60 / w) (far_part f), high_beyond)

  pub no_flags : class_and_flags (shape w) 0 ≡ 0
  no_flags = widths (λ w. class_and_flags (shape w) 0 ≡ 0) (omega arith) (omega arith) w wd

  -- two numbers or-ed: they have no class and flags exactly where neither has
  pub or_low : (a b : ℕ) → (class_and_flags (shape w) (bit_or a b) ≡ 0 → (class_and_flags (shape w) a ≡ 0) × (class_and_flags (shape w) b ≡ 0)) × ((class_and_flags (shape w) a ≡ 0) × (class_and_flags (shape w) b ≡ 0) → class_and_flags (shape w) (bit_or a b) ≡ 0)
  or_low a b =
      widths (λ w. (class_and_flags (shape w) (bit_or a b) ≡ 0 → (class_and_flags (shape w) a ≡ 0) × (class_and_flags (shape w) b ≡ 0)) × ((class_and_flags (shape w) a ≡ 0) × (class_and_flags (shape w) b ≡ 0) → class_and_flags (shape w) (bit_or a b) ≡ 0)) (or_parts a b 6) (or_parts a b 7) w wd

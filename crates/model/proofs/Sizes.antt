-- Laws of the sizes of blocks, items and pages.
use Rattle.std.proofs.Common.{ℕ, zero, suc, ◌+◌, ◌-◌, ◌*◌, ◌/◌, ◌%◌, ◌≤◌, ◌<◌, ◌^◌, ◌≡◌, refl, div-le_self, div-mul-le_self, mul-le-mul_left, arith}
use Rattle.words.specs.Width.{Width}
use Rattle.words.proofs.WidthLaws.{widths}
use Rattle.model.specs.Shape.{shape, up8, start, index, least_variable, largest_item, need_of, item_size, page_need}
use Rattle.model.specs.Parts.{free_header, held_header, next_in}

-- a size above a multiple of 8 is rounded up to the next at least
pub up_above : (k n : ℕ) → 8 * k < n → 8 * k + 8 ≤ up8 n
up_above k n l = omega arith

-- what is rounded up and holds two tags is a multiple of 8
pub need_eight : (n t : ℕ) → t % 8 ≡ 0 → (up8 n + t) % 8 ≡ 0
need_eight n t e = omega arith

-- one item and those after it take as much as all
pub one_less : (left s : ℕ) → (left ≡ 0 → ⊥) → s + (left - 1) * s ≡ left * s
one_less zero s z = absurd (z refl)
one_less (suc k) s z = let e : suc k - 1 ≡ k = omega arith in rw e (omega arith)

-- document 01's word, and the hand unit's
pub eight : Width 8
eight = omega arith

pub four : Width 4
four = omega arith

pub per_page_bound : {w : ℕ} → Width w → (c : ℕ) → (1 ≤ (shape w).per_page c) × ((shape w).per_page c ≤ 4097)
per_page_bound {w} k c = widths (λ w. (1 ≤ (shape w).per_page c) × ((shape w).per_page c ≤ 4097)) (omega arith) (omega (arith, div-le_self 4096 (8 * c + 16))) w k

-- a page's items take at most 4,096 bytes and one item more
pub page_items_bound : {w : ℕ} → Width w → (c : ℕ) → c < 4 * w → (shape w).per_page c * item_size (shape w) c ≤ 4360
page_items_bound {w} k c =
    widths (λ w. c < 4 * w → (shape w).per_page c * item_size (shape w) c ≤ 4360) (omega arith) (omega (arith, div-mul-le_self 4096 (8 * c + 16))) w k

-- the same of numbers that are known to be a page's count and its items' size
pub page_product : {w : ℕ} → Width w → (c n s : ℕ) → c < 4 * w → n ≡ (shape w).per_page c → s ≡ item_size (shape w) c → (n * s ≤ 4360) × (2 * w + n * s ≡ page_need (shape w) c)
page_product k c n s l e f = rw (e, f) (page_items_bound k c l, refl)

-- the class that a header says is below the number of classes
pub class_few : {w : ℕ} → Width w → (x : ℕ) → x % (16 * w) / 4 < 4 * w
class_few {w} k x = widths (λ w. x % (16 * w) / 4 < 4 * w) (omega arith) (omega arith) w k

-- the offset that a header names is no more than the header
pub next_small : {w : ℕ} → Width w → (x : ℕ) → x / (16 * w) * w ≤ x
next_small {w} k x = widths (λ w. x / (16 * w) * w ≤ x) (omega arith) (omega arith) w k

-- a page's size is a multiple of 8, and no less than a free block's
pub page_eight : {w : ℕ} → Width w → (c : ℕ) → (2 * w + (shape w).per_page c * item_size (shape w) c) % 8 ≡ 0
page_eight {w} k c = widths (λ w. (2 * w + (shape w).per_page c * item_size (shape w) c) % 8 ≡ 0) (omega arith) (omega arith) w k

pub page_least : {w : ℕ} → Width w → (c : ℕ) → 4 * w ≤ 2 * w + (shape w).per_page c * item_size (shape w) c
page_least {w} k c = widths (λ w. 4 * w ≤ 2 * w + (shape w).per_page c * item_size (shape w) c) (omega arith) (omega arith) w k

-- the data area begins at a multiple of 8
pub start_eight : {w : ℕ} → Width w → start (shape w) % 8 ≡ 0
start_eight {w} k = widths (λ w. start (shape w) % 8 ≡ 0) (omega arith) (omega arith) w k

-- items' positions and offsets are multiples of a word: the first of a page's, the one after an item's, and from position to offset
module _ {w : ℕ} (k : Width w) (p : ℕ) where
  pub first_even : p % 8 ≡ 0 → (p + w) % w ≡ 0
  first_even = widths (λ w. p % 8 ≡ 0 → (p + w) % w ≡ 0) (omega arith) (omega arith) w k

  pub item_even : (c : ℕ) → p % w ≡ 0 → (p + item_size (shape w) c) % w ≡ 0
  item_even c = widths (λ w. p % w ≡ 0 → (p + item_size (shape w) c) % w ≡ 0) (omega arith) (omega arith) w k

  pub offset_even : index (shape w) ≤ p → p % w ≡ 0 → (p - index (shape w)) % w ≡ 0
  offset_even = widths (λ w. index (shape w) ≤ p → p % w ≡ 0 → (p - index (shape w)) % w ≡ 0) (omega arith) (omega arith) w k

-- what the header of a free item says, and that of an item in use
module _ {w : ℕ} (k : Width w) (c n : ℕ) (few : c < 4 * w) where
  pub class_idle : n % w ≡ 0 → (16 * n + 4 * c + 1) % (16 * w) / 4 ≡ c
  class_idle = widths (λ w. c < 4 * w → n % w ≡ 0 → (16 * n + 4 * c + 1) % (16 * w) / 4 ≡ c) (omega arith) (omega arith) w k few

  pub next_idle : n % w ≡ 0 → next_in (shape w) (free_header c n) ≡ n
  next_idle = widths (λ w. c < 4 * w → n % w ≡ 0 → next_in (shape w) (free_header c n) ≡ n) (omega arith) (omega arith) w k few

  pub class_held : held_header c n % (16 * w) / 4 ≡ c
  class_held = widths (λ w. c < 4 * w → held_header c n % (16 * w) / 4 ≡ c) (omega arith) (omega arith) w k few

pub zero_even : {w : ℕ} → Width w → (n : ℕ) → n ≡ 0 → n % w ≡ 0
zero_even {w} k n = widths (λ w. n ≡ 0 → n % w ≡ 0) (omega arith) (omega arith) w k

-- a header that names a place in the longest heap fits a word, and so does one with a size of any class
pub words_fit : {w : ℕ} → Width w → (n : ℕ) → n ≤ (shape w).most → 16 * n + 1028 * (4 * w) + 64 * w + 64 < 256 ^ w
words_fit {w} k n = widths (λ w. n ≤ (shape w).most → 16 * n + 1028 * (4 * w) + 64 * w + 64 < 256 ^ w) (omega arith) (omega arith) w k

-- the magic number is a word of eight bytes
pub magic_fits : {w : ℕ} → Width w → (shape w).magic < 256 ^ 8
magic_fits {w} k = widths (λ w. (shape w).magic < 256 ^ 8) (omega arith) (omega arith) w k

-- a header's flags, whatever the word size
pub flags_idle : {w : ℕ} → Width w → (x c : ℕ) → x % (16 * w) ≡ 4 * c + 1 → x % 4 ≡ 1
flags_idle {w} k x c = widths (λ w. x % (16 * w) ≡ 4 * c + 1 → x % 4 ≡ 1) (omega arith) (omega arith) w k

-- the longest heap
pub most_bound : {w : ℕ} → Width w → (shape w).most ≤ 131072 * w
most_bound {w} k = widths (λ w. (shape w).most ≤ 131072 * w) (omega arith) (omega arith) w k

-- the heads of the lists lie in the index page
pub heads_room : (w c : ℕ) → c ≤ 4 * w → w * c ≤ w * (4 * w)
heads_room w c l = mul-le-mul_left w l

-- the end of a heap that is long enough leaves room for the least free block
pub end_room : {w : ℕ} → Width w → (n : ℕ) → start (shape w) + 4 * w ≤ n → start (shape w) + 4 * w ≤ n / 8 * 8
end_room {w} k n = widths (λ w. start (shape w) + 4 * w ≤ n → start (shape w) + 4 * w ≤ n / 8 * 8) (omega arith) (omega arith) w k

-- a size above the largest item that is handed out needs a block that is large enough
pub need_sized : {w : ℕ} → Width w → (n : ℕ) → largest_item (shape w) < n → (least_variable (shape w) ≤ need_of (shape w) n) × (need_of (shape w) n % 8 ≡ 0)
need_sized {w} k n = widths (λ w. largest_item (shape w) < n → (least_variable (shape w) ≤ need_of (shape w) n) × (need_of (shape w) n % 8 ≡ 0)) (omega arith) (omega arith) w k

-- What a shape must have, so that the laws of layouts hold of its heaps; and that the heaps with words of 4 and of 8 bytes have it.
use Rattle.std.proofs.Common.{ℕ, ◌+◌, ◌*◌, ◌%◌, ◌^◌, ◌≤◌, ◌<◌, ◌≡◌, arith}
use Rattle.words.specs.Width.{Width}
use Rattle.model.specs.Shape.{Shape, shape, tags, least_free, least_variable, page_need}
use Rattle.model.proofs.Sizes.{page_eight, words_fit}

pub record Good (S : Shape) : Type 0 where
  -- a word has bytes
  pub word : 0 < S.word
  -- a header that names a place in the longest heap fits a word, and so does one with a size of any class
  pub fits : (n : ℕ) → n ≤ S.most → 16 * n + 1028 * S.classes + 64 * S.word + 64 < 256 ^ S.word
  -- two tags, and a page, take multiples of 8 bytes
  pub tags : tags S % 8 ≡ 0
  pub pages : (c : ℕ) → page_need S c % 8 ≡ 0
  -- what is handed out are classes that there are
  pub offered : S.offered ≤ S.classes
  -- a variable block that is given back is large enough to be free
  pub larger : least_free S ≤ least_variable S

pub shape_good : {w : ℕ} → Width w → Good (shape w)
shape_good {w} k =
    record {
      word = omega arith;
      fits = words_fit k;
      tags = omega arith;
      pages = page_eight k;
      offered = omega arith;
      larger = omega arith;
    }

-- A fresh heap: its layout is valid, so there are sound heaps.
use Rattle.std.proofs.Common.{ℕ, ◌+◌, ◌-◌, ◌%◌, ◌≤◌, ◌*◌, ◌≡◌, ap, List, [], arith, length}
use Rattle.std.proofs.Math.ListN.{length-replicate, get_or-replicate}
use Rattle.words.specs.Word.{word_at}
use Rattle.model.specs.Picture.{draw}
use Rattle.words.specs.Width.{Width}
use Rattle.model.specs.Shape.{Shape, start, least_free, end_of, shape}
use Rattle.model.specs.Layout.{size_of, ends, words}
use Rattle.model.specs.Rules.{fresh}
use Rattle.model.specs.Sound.{times, Allowed, AllAllowed, Apart, idle_in, idle_items, Valid, Here}
use Rattle.model.proofs.Good.{shape_good}
use Rattle.model.proofs.pictures.Drawn.{drawn_here}
use Rattle.model.proofs.Sizes.{start_eight}

pub fresh_valid : (S : Shape) (end : ℕ) → start S + least_free S ≤ end → (end - start S) % 8 ≡ 0 → Valid S end (fresh S end)
unfolding ends size_of AllAllowed Allowed Apart idle_items idle_in
fresh_valid S end h m =
    record {
      fills = omega arith;
      allowed = ((omega arith, m), tt);
      apart = (omega arith, tt);
      classes = length-replicate S.classes [];
      listed = λ c o k. ap (λ (l : List ℕ). times o l) (get_or-replicate S.classes c [] [] k);
    }

-- Initialise
pub fresh_here : {w : ℕ} → Width w → (b : List ℕ) → word_at 8 b 0 ≡ (shape w).magic → start (shape w) + 4 * w ≤ length b → length b ≤ (shape w).most → Here (shape w) (draw w (words (shape w) (end_of (length b)) (fresh (shape w) (end_of (length b)))) b) (fresh (shape w) (end_of (length b)))
fresh_here {w} wd b m h k = drawn_here (shape w) (shape_good wd) b (fresh (shape w) (end_of (length b))) m (fresh_valid (shape w) (end_of (length b)) (omega (arith, start_eight wd)) (omega (arith, start_eight wd))) k

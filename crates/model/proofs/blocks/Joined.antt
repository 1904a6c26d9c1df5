-- What a release leaves as it is: all that free blocks add nothing to, as sums over pages, and what is live.
use Rattle.std.proofs.Common.{ℕ, ◌+◌, ◌≡◌, refl, sym, ap, ◌∙◌, List, [], ◌∷◌, ◌++◌, arith}
use Rattle.model.specs.Shape.{Shape}
use Rattle.model.specs.Layout.{Slot, Block, free, used, use_size}
use Rattle.model.specs.Rules.{Spot, before, in_front, released}
use Rattle.model.specs.Live.{Payload, use_live, live_from}
use Rattle.model.specs.Reading.{total, of_block, of_page}
use Rattle.model.proofs.walks.Totals.{total_append}

-- of blocks from a position on, where a free block only moves the position
module _ {A : Type 0} (f : ℕ → List Block → A) (skips : (p s : ℕ) (bs : List Block) → f p (free s ∷ bs) ≡ f (p + s) bs)
    (goes_on : (p : ℕ) (b : Block) (bs cs : List Block) → ((q : ℕ) → f q bs ≡ f q cs) → f p (b ∷ bs) ≡ f p (b ∷ cs)) where
  before_same : (p : ℕ) (b : Block) (bs : List Block) → f p (before b bs) ≡ f p (b ∷ bs)
  unfolding before
  before_same p (free s) [] = refl
  before_same p (free s) (free t ∷ bs) = skips p (s + t) bs ∙ ap (λ (q : ℕ). f q bs) (omega arith) ∙ sym (skips (p + s) t bs) ∙ sym (skips p s (free t ∷ bs))
  before_same p (free s) (used u ∷ bs) = refl
  before_same p (used u) bs = refl

  front_same : (pre bs cs : List Block) → ((q : ℕ) → f q bs ≡ f q cs) → (p : ℕ) → f p (in_front pre bs) ≡ f p (pre ++ cs)
  unfolding in_front
  front_same [] bs cs e p = e p
  front_same (b ∷ pre) bs cs e p = before_same p b (in_front pre bs) ∙ goes_on p b (in_front pre bs) (pre ++ cs) (front_same pre bs cs e)

  pub released_same : (t : Spot) (p : ℕ) → f p (released t) ≡ f p (t.pre ++ (free t.size ∷ t.post))
  released_same t p = front_same t.pre (before (free t.size) t.post) (free t.size ∷ t.post) (λ q. before_same q (free t.size) t.post) p

-- a sum over pages
pub released_total : (g : ℕ → List Slot → ℕ) (t : Spot) → total (of_page g) (released t) ≡ total (of_page g) t.pre + total (of_page g) t.post
unfolding total of_block
released_total g t =
    released_same (λ p bs. total (of_page g) bs) (λ p s bs. omega arith) (λ p b bs cs e. ap (λ (n : ℕ). of_page g b + n) (e p)) t 0
    ∙ total_append (of_page g) t.pre (free t.size ∷ t.post)
    ∙ omega arith

module _ (S : Shape) where
  -- what is live
  live_on : (p : ℕ) (b : Block) (bs cs : List Block) → ((q : ℕ) → live_from S q bs ≡ live_from S q cs) → live_from S p (b ∷ bs) ≡ live_from S p (b ∷ cs)
  unfolding live_from
  live_on p (free s) bs cs e = e (p + s)
  live_on p (used u) bs cs e = ap (λ (l : List Payload). use_live S p u ++ l) (e (p + use_size S u))

  pub released_live : (t : Spot) (p : ℕ) → live_from S p (released t) ≡ live_from S p (t.pre ++ (free t.size ∷ t.post))
  unfolding live_from
  released_live = released_same (live_from S) (λ p s bs. refl) live_on

-- The lists linked anew visit every free item once: so the layout with them is valid.
use Rattle.std.proofs.Common.{ℕ, zero, suc, ◌+◌, ◌≤◌, ◌<◌, ◌≡◌, refl, ap, ◌∙◌, cond, List, [], ◌∷◌, arith, length, get_or, eqb, leb, eq-eqb, ne_eqb, le-leb}
use Rattle.std.proofs.Math.Decide.{ℕ_discrete, dec_le}
use Rattle.std.proofs.lemmas.Bool.{lt-leb}
use Rattle.model.specs.Shape.{Shape, start}
use Rattle.model.specs.Layout.{variable, page, Block, free, used, Layout, size_of}
use Rattle.model.specs.Sound.{times, Allowed, AllowedUse, AllAllowed, idle_in, idle_items, Valid}
use Rattle.model.specs.Reading.{held_in, of_block}
use Rattle.model.specs.Sweeping.{live_items, idle_with, relinked, relinked_from, linked_anew}
use Rattle.model.specs.inner.Laid.{Tiled}
use Rattle.model.proofs.pictures.Drawn.{times_append}
use Rattle.model.proofs.walks.Totals.{held_few}

module _ (S : Shape) where
  -- how often o is a free item of class c in a page with at most k live items, in blocks from p on
  module _ (o c : ℕ) where
    abbrev in_block : ℕ → Block → ℕ
    in_block p b = times o (idle_in S c p b)

    unfoldable up_to : ℕ → ℕ → List Block → ℕ
    up_to k p [] = 0
    up_to k p (b ∷ bs) = cond (leb (live_items b) k) (in_block p b) 0 + up_to k (p + size_of S b) bs

    -- in one block: with just k live items, and with at most k
    with_is : (k n : ℕ) (l : List ℕ) → times o (cond (eqb n k) l []) ≡ cond (eqb n k) (times o l) 0
    unfolding times
    with_is k n l = go (ℕ_discrete n k)
      where
        go : Dec (n ≡ k) → times o (cond (eqb n k) l []) ≡ cond (eqb n k) (times o l) 0
        go (yes e) = rw (eq-eqb n k e) refl
        go (no e) = rw (ne_eqb n k e) refl

    none_up : (n m : ℕ) → cond (eqb n 0) m 0 ≡ cond (leb n 0) m 0
    none_up n m = go (ℕ_discrete n 0)
      where
        go : Dec (n ≡ 0) → cond (eqb n 0) m 0 ≡ cond (leb n 0) m 0
        go (yes e) = rw (eq-eqb n 0 e, le-leb n 0 (omega arith)) refl
        go (no e) = rw (ne_eqb n 0 e, lt-leb n 0 (omega arith)) refl

    one_up : (k n m : ℕ) → cond (eqb n (suc k)) m 0 + cond (leb n k) m 0 ≡ cond (leb n (suc k)) m 0
    one_up k n m = go (ℕ_discrete n (suc k)) (dec_le n k)
      where
        go : Dec (n ≡ suc k) → Dec (n ≤ k) → cond (eqb n (suc k)) m 0 + cond (leb n k) m 0 ≡ cond (leb n (suc k)) m 0
        go (yes e) (yes l) = absurd (omega arith)
        go (yes e) (no l) = rw (eq-eqb n (suc k) e, lt-leb n k (omega arith), le-leb n (suc k) (omega arith)) (omega arith)
        go (no e) (yes l) = rw (ne_eqb n (suc k) e, le-leb n k l, le-leb n (suc k) (omega arith)) (omega arith)
        go (no e) (no l) = rw (ne_eqb n (suc k) e, lt-leb n k (omega arith), lt-leb n (suc k) (omega arith)) (omega arith)

    none_times : (p : ℕ) (bs : List Block) → times o (idle_with S 0 c p bs) ≡ up_to 0 p bs
    unfolding idle_with up_to
    none_times p [] = unfold times in refl
    none_times p (b ∷ bs) =
        omega (arith, times_append o (cond (eqb (live_items b) 0) (idle_in S c p b) []) (idle_with S 0 c (p + size_of S b) bs), with_is 0 (live_items b) (idle_in S c p b), none_up (live_items b) (in_block p b), none_times (p + size_of S b) bs)

    one_times : (k p : ℕ) (bs : List Block) → times o (idle_with S (suc k) c p bs) + up_to k p bs ≡ up_to (suc k) p bs
    unfolding idle_with up_to
    one_times k p [] = unfold times in refl
    one_times k p (b ∷ bs) =
        omega (arith, times_append o (cond (eqb (live_items b) (suc k)) (idle_in S c p b) []) (idle_with S (suc k) c (p + size_of S b) bs), with_is (suc k) (live_items b) (idle_in S c p b), one_up k (live_items b) (in_block p b), one_times k (p + size_of S b) bs)

    relinked_times : (k : ℕ) (bs : List Block) → times o (relinked S k c bs) ≡ up_to k (start S) bs
    unfolding relinked
    relinked_times zero bs = none_times (start S) bs
    relinked_times (suc k) bs = omega (arith, times_append o (idle_with S (suc k) c (start S) bs) (relinked S k c bs), relinked_times k bs, one_times k (start S) bs)

    -- no page of class c has more live items than items
    block_all : (p : ℕ) (b : Block) → Allowed S b → cond (leb (live_items b) (S.per_page c)) (in_block p b) 0 ≡ in_block p b
    unfolding Allowed AllowedUse of_block idle_in times
    block_all p (free s) a = rw (le-leb 0 (S.per_page c) (omega arith)) refl
    block_all p (used (variable s)) a = rw (le-leb 0 (S.per_page c) (omega arith)) refl
    block_all p (used (page d k ss)) a = go (ℕ_discrete c d) (dec_le (held_in ss) (S.per_page c))
      where
        go : Dec (c ≡ d) → Dec (held_in ss ≤ S.per_page c) → cond (leb (held_in ss) (S.per_page c)) (in_block p (used (page d k ss))) 0 ≡ in_block p (used (page d k ss))
        go e (yes l) = rw (le-leb (held_in ss) (S.per_page c) l) refl
        go (yes e) (no l) = absurd (l (omega (arith, held_few ss, a.1, ap (λ (x : ℕ). S.per_page x) e)))
        go (no e) (no l) = rw (ne_eqb c d e, lt-leb (held_in ss) (S.per_page c) (omega arith)) refl

    all_times : (p : ℕ) (bs : List Block) → AllAllowed S bs → up_to (S.per_page c) p bs ≡ times o (idle_items S c p bs)
    unfolding up_to idle_items AllAllowed
    all_times p [] a = unfold times in refl
    all_times p (b ∷ bs) a = omega (arith, block_all p b a.0, all_times (p + size_of S b) bs a.1, times_append o (idle_in S c p b) (idle_items S c (p + size_of S b) bs))

    -- THE LAW: the list of class c visits its free items as often as they are there
    pub relinked_visits : (bs : List Block) → AllAllowed S bs → times o (relinked S (S.per_page c) c bs) ≡ times o (idle_items S c (start S) bs)
    relinked_visits bs a = relinked_times (S.per_page c) bs ∙ all_times (start S) bs a

  -- the lists, one for each class
  pub relinked_length : (n c : ℕ) (bs : List Block) → length (relinked_from S n c bs) ≡ n
  unfolding relinked_from
  relinked_length zero c bs = refl
  relinked_length (suc n) c bs = omega (arith, relinked_length n (c + 1) bs)

  relinked_from_lem : (n d i : ℕ) (bs : List Block) → i < n → get_or (relinked_from S n d bs) i [] ≡ relinked S (S.per_page (d + i)) (d + i) bs
  unfolding relinked_from
  relinked_from_lem zero d i bs l = absurd (omega arith)
  relinked_from_lem (suc n) d zero bs l = ap (λ (x : ℕ). relinked S (S.per_page x) x bs) (omega arith)
  relinked_from_lem (suc n) d (suc i) bs l = relinked_from_lem n (d + 1) i bs (omega arith) ∙ ap (λ (x : ℕ). relinked S (S.per_page x) x bs) (omega arith)

  pub relinked_get : (c : ℕ) (bs : List Block) → c < S.classes → get_or (relinked_from S S.classes 0 bs) c [] ≡ relinked S (S.per_page c) c bs
  relinked_get c bs l = relinked_from_lem S.classes 0 c bs l ∙ ap (λ (x : ℕ). relinked S (S.per_page x) x bs) (omega arith)

  -- THE LAW: with its lists linked anew a layout is valid
  pub linked_valid : {end : ℕ} {L : Layout} → Tiled S end L → Valid S end (linked_anew S L)
  linked_valid {end} {L} t =
      record {
        fills = t.fills;
        allowed = t.allowed;
        apart = t.apart;
        classes = relinked_length S.classes 0 L.blocks;
        listed = λ c o l. ap (λ (x : List ℕ). times o x) (relinked_get c L.blocks l) ∙ relinked_visits o c L.blocks t.allowed;
      }

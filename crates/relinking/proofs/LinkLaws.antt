-- Every class's list is linked anew, one after the other.
use Rattle.std.proofs.Common.{ℕ, zero, suc, ◌+◌, ◌≤◌, ◌<◌, ◌≡◌, refl, sym, ap, subst, ◌∙◌, List, [], ⊎_elim, arith, length, get_or, set, length-set, get_or-set_same, get_or-set_other, ext_get_or}
use Rattle.std.proofs.Math.Decide.{ℕ_discrete}
use Rattle.words.specs.Word.{word_at, Bytes}
use Rattle.model.specs.Shape.{Shape, shape, start, end_of}
use Rattle.model.specs.Parts.{head_at}
use Rattle.model.specs.Layout.{Block, Layout, head_of}
use Rattle.model.specs.Sound.{times, idle_items}
use Rattle.model.specs.Calls.{drawn}
use Rattle.model.specs.Sweeping.{relinked, relinked_from}
use Rattle.model.specs.inner.Laid.{Laid, Linkable}
use Rattle.model.proofs.blocks.Blocks.{le_ends}
use Rattle.model.proofs.pictures.Drawn.{head_of_lem}
use Rattle.model.proofs.pictures.Shown.{head_in}
use Rattle.model.proofs.sweeps.Relinked.{relinked_visits, relinked_length, relinked_get}
use Rattle.relinking.specs.Relink.{listing, Became, ClassReady, ClassLinked, LinkReady, EmptyBelow, Linked}
use Rattle.relinking.proofs.Front.{became_length, became_bytes, became_start, became_then, became_as, listing_laid}

-- the lists, of which those of the classes below n are linked anew
unfoldable pub renewed_below : Shape → ℕ → List Block → List (List ℕ) → List (List ℕ)
renewed_below S zero bs ls = ls
renewed_below S (suc n) bs ls = set (renewed_below S n bs ls) n (relinked S (S.per_page n) n bs)

module _ (S : Shape) (bs : List Block) (ls : List (List ℕ)) where
  below_length : (n : ℕ) → length (renewed_below S n bs ls) ≡ length ls
  unfolding renewed_below
  below_length zero = refl
  below_length (suc n) = length-set (renewed_below S n bs ls) n (relinked S (S.per_page n) n bs) ∙ below_length n

  -- a list that is not yet linked anew, and one that is
  below_later : (n i : ℕ) → n ≤ i → get_or (renewed_below S n bs ls) i [] ≡ get_or ls i []
  unfolding renewed_below
  below_later zero i l = refl
  below_later (suc n) i l = get_or-set_other (renewed_below S n bs ls) n i (relinked S (S.per_page n) n bs) [] (λ e. omega arith) ∙ below_later n i (omega arith)

  below_get : (n i : ℕ) → n ≤ length ls → i < n → get_or (renewed_below S n bs ls) i [] ≡ relinked S (S.per_page i) i bs
  unfolding renewed_below
  below_get zero i m l = absurd (omega arith)
  below_get (suc n) i m l = go (ℕ_discrete i n) (below_get n i (omega arith))
    where
      go : Dec (i ≡ n) → (i < n → get_or (renewed_below S n bs ls) i [] ≡ relinked S (S.per_page i) i bs) → get_or (set (renewed_below S n bs ls) n (relinked S (S.per_page n) n bs)) i [] ≡ relinked S (S.per_page i) i bs
      go (yes e) r = rw e (get_or-set_same (renewed_below S n bs ls) n (relinked S (S.per_page n) n bs) [] (omega (arith, below_length n)))
      go (no e) r = get_or-set_other (renewed_below S n bs ls) n i (relinked S (S.per_page n) n bs) [] e ∙ r (omega arith)

  below_all : length ls ≡ S.classes → renewed_below S S.classes bs ls ≡ relinked_from S S.classes 0 bs
  below_all n =
      ext_get_or [] (renewed_below S S.classes bs ls) (relinked_from S S.classes 0 bs) (below_length S.classes ∙ n ∙ sym (relinked_length S S.classes 0 bs))
      (λ i l. below_get S.classes i (omega (arith, n)) (omega (arith, below_length S.classes, n)) ∙ sym (relinked_get S i bs (omega (arith, l, below_length S.classes, n))))

abbrev pub below_in : ℕ → ℕ → Layout → Layout
below_in w n L = record { blocks = L.blocks; lists = renewed_below (shape w) n L.blocks L.lists }

-- the classes below c are done
pub record Renewing (w : ℕ) (b : List ℕ) (h : List ℕ) (c : ℕ) : Type 0 where
  pub heap : LinkReady w b
  pub bytes : Bytes b
  pub few : c ≤ (shape w).classes
  pub became : (L : Layout) → Linkable w b L → Became w b (below_in w c L) h

pub renewing_start : {w : ℕ} {b : List ℕ} → LinkReady w b → Bytes b → Renewing w b b 0
unfolding renewed_below
renewing_start r bytes = record { heap = r; bytes = bytes; few = omega arith; became = λ L k. became_start r.width bytes r.short k.laid }

module _ {w : ℕ} {b h : List ℕ} {c : ℕ} (v : Renewing w b h c) where
  pub renewing_length : length h ≡ length b
  renewing_length = became_length (v.became v.heap.layout v.heap.linkable)

  pub renewing_done : (n : ℕ) → n ≡ (shape w).classes → n ≤ c → Linked w b h
  renewing_done n en l =
      record {
        is = λ L k.
            let all : c ≡ (shape w).classes = omega (arith, v.few) in
            let e : renewed_below (shape w) c L.blocks L.lists ≡ relinked_from (shape w) (shape w).classes 0 L.blocks =
            ap (λ (i : ℕ). renewed_below (shape w) i L.blocks L.lists) all ∙ below_all (shape w) L.blocks L.lists k.laid.tiled.classes in
            (v.became L k).is ∙ ap (λ (ls : List (List ℕ)). drawn (shape w) (record { blocks = L.blocks; lists = ls }) b) e;
      }

  module _ (n : ℕ) (en : n ≡ (shape w).classes) (l : c < n) where
    pub renewing_class : ClassReady w h c
    renewing_class =
        let r = v.heap in
        let z = v.became r.layout r.linkable in
        record { width = r.width; layout = below_in w c r.layout; laid = z.laid; short = omega (arith, became_length z, r.short); class = omega (arith, en) }

    next : (d : List ℕ) → ((L : Layout) → Linkable w b L → Became w b (below_in w (suc c) L) d) → Renewing w b d (c + 1)
    next d f = let one : c + 1 ≡ suc c = omega arith in rw one (record { heap = v.heap; bytes = v.bytes; few = omega (arith, en); became = f })

    pub renewing_linked : {d : List ℕ} → ClassLinked w h c d → Renewing w b d (c + 1)
    unfolding renewed_below
    renewing_linked {d} k = next d (λ L y. let z = v.became L y in became_then v.heap.width v.bytes v.heap.short z (k.is (below_in w c L) z.laid) refl)

    -- a class with no free item keeps its list, which is empty
    pub renewing_none : (head x : ℕ) → head ≡ head_at (shape w) c → x ≡ word_at w h head → x ≡ 0 → Renewing w b h (c + 1)
    unfolding renewed_below
    renewing_none head x eh ex z = next h (λ L y. became_as v.heap.width v.bytes v.heap.short (v.became L y) (go L y) refl)
      where
        go : (L : Layout) (y : Linkable w b L) → Laid w h (listing c (relinked (shape w) ((shape w).per_page c) c L.blocks) (below_in w c L))
        go L y =
            let k = v.became L y in
            let cl : c < (shape w).classes = omega (arith, en) in
            let new = relinked (shape w) ((shape w).per_page c) c L.blocks in
            let read : head_of (get_or (below_in w c L).lists c []) ≡ 0 = sym (head_in (shape w) h (end_of (length h)) (below_in w c L) k.laid.shown k.laid.tiled.classes c cl) ∙ ap (word_at w h) (sym eh) ∙ sym ex ∙ z in
            let none : (o : ℕ) → times o (idle_items (shape w) c (start (shape w)) L.blocks) ≡ 0 = y.none_left c cl (ap head_of (sym (below_later (shape w) L.blocks L.lists c c (omega arith))) ∙ read) in
            let empty : (o : ℕ) → 1 ≤ times o new → ⊥ = λ o i. omega (arith, i, relinked_visits (shape w) o c L.blocks y.laid.tiled.allowed, none o) in
            let first : head_of new ≡ 0 = ⊎_elim (λ e. e) (λ e. absurd (empty (head_of new) e)) (head_of_lem new) in
            listing_laid v.heap.width (became_bytes k v.bytes) (omega (arith, became_length k, v.heap.short)) k.laid cl new (λ o i. absurd (empty o i)) (λ o i. absurd (empty o i))
            (λ o i. absurd (omega (arith, i, none o))) (omega (arith, first)) (first ∙ sym read)

-- while the lists are empty, nothing has changed
pub renewing_from : {w : ℕ} {b : List ℕ} → LinkReady w b → Bytes b → (c : ℕ) → EmptyBelow w b c → Renewing w b b c
renewing_from r bytes zero e = renewing_start r bytes
renewing_from {w} {b} r bytes (suc c) e =
    let one : c + 1 ≡ suc c = omega arith in
    subst (λ (y : ℕ). Renewing w b b y) one
    (renewing_none (renewing_from r bytes c (record { few = omega (arith, e.few); heads = λ d l. e.heads d (omega arith) })) (shape w).classes refl (omega (arith, e.few)) (head_at (shape w) c) (word_at w b (head_at (shape w) c)) refl refl (e.heads c (omega arith)))

-- where all are, they are linked anew as they are
pub all_empty : {w : ℕ} {b : List ℕ} → LinkReady w b → Bytes b → (c n : ℕ) → EmptyBelow w b c → n ≡ (shape w).classes → c ≡ n → Linked w b b
all_empty r bytes c n e en ec = renewing_done (renewing_from r bytes c e) n en (omega arith)

pub empty_start : {w : ℕ} {b : List ℕ} → EmptyBelow w b 0
empty_start = record { few = omega arith; heads = λ d l. absurd (omega arith) }

pub empty_more : {w : ℕ} {b : List ℕ} {c : ℕ} → EmptyBelow w b c → c < (shape w).classes → (head x : ℕ) → head ≡ head_at (shape w) c → x ≡ word_at w b head → x ≡ 0 → EmptyBelow w b (c + 1)
empty_more {w} {b} {c} e l head x eh ex z = record { few = omega arith; heads = λ d m. go d m (ℕ_discrete d c) }
  where
    go : (d : ℕ) → d < c + 1 → Dec (d ≡ c) → word_at w b (head_at (shape w) d) ≡ 0
    go d m (yes f) = ap (λ (y : ℕ). word_at w b (head_at (shape w) y)) f ∙ ap (word_at w b) (sym eh) ∙ sym ex ∙ z
    go d m (no f) = e.heads d (omega arith)

-- the heads are within the bytes
pub laid_long : {w : ℕ} {b : List ℕ} {L : Layout} → Laid w b L → start (shape w) ≤ length b
laid_long {w} {b} {L} h = omega (arith, le_ends (shape w) (start (shape w)) L.blocks, h.tiled.fills)

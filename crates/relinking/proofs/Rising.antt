-- The levels of a class, from the fewest live items on: those below k are pushed, and which comes next.
use Rattle.std.proofs.Common.{ℕ, zero, suc, ◌+◌, ◌-◌, ◌≤◌, ◌<◌, ◌≡◌, sym, ap, subst, ◌∙◌, List, [], ◌++◌, append-nil, arith, length, get_or}
use Rattle.std.proofs.Math.Decide.{ℕ_discrete}
use Rattle.words.specs.Word.{Bytes}
use Rattle.model.specs.Shape.{Shape, shape, start}
use Rattle.model.specs.Layout.{Block, Layout}
use Rattle.model.specs.Sound.{AllAllowed}
use Rattle.model.specs.Sweeping.{idle_with, relinked}
use Rattle.model.specs.inner.Laid.{Laid}
use Rattle.relinking.specs.Relink.{live_in, NextLevel, listing, in_front, Became, Gathered, LevelReady, LevelPushed, LevelsPushed}
use Rattle.relinking.proofs.Levels.{level_none, level_is, full_none}
use Rattle.relinking.proofs.LevelLaws.{pages, table_length, live_is}
use Rattle.relinking.proofs.Front.{became_length, became_start, front_none, front_then}

-- the list of pages with fewer than k live items
unfoldable pub fewer : Shape → ℕ → ℕ → List Block → List ℕ
fewer S zero c bs = []
fewer S (suc k) c bs = idle_with S k c (start S) bs ++ fewer S k c bs

all_fewer : (S : Shape) (k c : ℕ) (bs : List Block) → fewer S (suc k) c bs ≡ relinked S k c bs
unfolding fewer relinked
all_fewer S zero c bs = append-nil (idle_with S 0 c (start S) bs)
all_fewer S (suc k) c bs = ap (λ (l : List ℕ). idle_with S (suc k) c (start S) bs ++ l) (all_fewer S k c bs)

-- pages with as many live items as items have no free one
fewer_all : (S : Shape) (c : ℕ) (bs : List Block) → AllAllowed S bs → fewer S (S.per_page c) c bs ≡ relinked S (S.per_page c) c bs
unfolding fewer
fewer_all S c bs a = sym (ap (λ (l : List ℕ). l ++ fewer S (S.per_page c) c bs) (full_none S c (start S) bs a)) ∙ all_fewer S (S.per_page c) c bs

-- the levels below k are pushed
pub record Rising (w : ℕ) (b : List ℕ) (c : ℕ) (table : List ℕ) (h : List ℕ) (k : ℕ) : Type 0 where
  pub heap : LevelReady w b c table
  pub bytes : Bytes b
  pub few : k ≤ (shape w).per_page c
  pub became : (L : Layout) → Laid w b L → Gathered w c L table → Became w b (in_front c (fewer (shape w) k c L.blocks) L) h

pub rising_start : {w : ℕ} {b : List ℕ} {c : ℕ} {table : List ℕ} → LevelReady w b c table → Bytes b → Rising w b c table b 0
unfolding fewer
rising_start {c = c} r bytes = record { heap = r; bytes = bytes; few = omega arith; became = λ L y g. front_none c (became_start r.width bytes r.short y) }

-- a table of a class's pages is so whatever the lists
pub gathered_listing : {w c : ℕ} {L : Layout} {table : List ℕ} (l : List ℕ) → Gathered w c L table → Gathered w c (listing c l L) table
gathered_listing l g = record { are = g.are }

module _ {w : ℕ} {b : List ℕ} {c : ℕ} {table : List ℕ} {h : List ℕ} {k : ℕ} (v : Rising w b c table h k) where
  pub rising_length : length h ≡ length b
  rising_length = became_length (v.became v.heap.layout v.heap.laid v.heap.gathered)

  pub rising_level : LevelReady w h c table
  rising_level =
      let r = v.heap in
      let z = v.became r.layout r.laid r.gathered in
      record {
        width = r.width;
        layout = in_front c (fewer (shape w) k c r.layout.blocks) r.layout;
        laid = z.laid;
        short = omega (arith, became_length z, r.short);
        class = r.class;
        gathered = gathered_listing (fewer (shape w) k c r.layout.blocks ++ get_or r.layout.lists c []) r.gathered;
      }

  pub rising_more : (n : ℕ) → n ≡ (shape w).per_page c → k < n → {d : List ℕ} → LevelPushed w h c table k d → Rising w b c table d (k + 1)
  unfolding fewer
  rising_more n en l {d} p =
      let one : k + 1 ≡ suc k = omega arith in
      rw one
      (record {
        heap = v.heap;
        bytes = v.bytes;
        few = omega (arith, en);
        became = λ L y g.
            let xs = fewer (shape w) k c L.blocks in
            let z = v.became L y g in
            front_then v.heap.width v.bytes v.heap.short L c v.heap.class xs z (idle_with (shape w) k c (start (shape w)) L.blocks) (p.is (in_front c xs L) z.laid (gathered_listing (xs ++ get_or L.lists c []) g));
      })

  -- a level that no page has is pushed already
  rising_empty : (n : ℕ) → n ≡ (shape w).per_page c → k < n → ((j : ℕ) → j < length table → live_in (get_or table j 0) ≡ k → ⊥) → Rising w b c table h (suc k)
  unfolding fewer
  rising_empty n en l never =
      record {
        heap = v.heap;
        bytes = v.bytes;
        few = omega (arith, en);
        became = λ L y g.
            let none : idle_with (shape w) k c (start (shape w)) L.blocks ≡ [] =
            level_is (shape w) k c (start (shape w)) L.blocks ∙ level_none (shape w) k c (pages w c L) (λ j lj e. never j (omega (arith, table_length g)) (live_is v.heap.width y g j (omega (arith, table_length g)) ∙ e)) in
            rw none (v.became L y g);
      }

  pub rising_done : (n : ℕ) → n ≡ (shape w).per_page c → n ≤ k → LevelsPushed w b c table h
  rising_done n en l =
      record {
        is = λ L y g.
            let all : k ≡ (shape w).per_page c = omega (arith, v.few, en) in
            let e : fewer (shape w) k c L.blocks ≡ relinked (shape w) ((shape w).per_page c) c L.blocks = ap (λ (j : ℕ). fewer (shape w) j c L.blocks) all ∙ fewer_all (shape w) c L.blocks y.tiled.allowed in
            subst (λ (l : List ℕ). Became w b (in_front c l L) h) e (v.became L y g);
      }

-- up to the next level that a page has, there is nothing to push
pub rising_next : {w : ℕ} {b : List ℕ} {c : ℕ} {table : List ℕ} {h : List ℕ} {k : ℕ} → Rising w b c table h k → (n r : ℕ) → n ≡ (shape w).per_page c → NextLevel table k n r → Rising w b c table h r
rising_next {w} {b} {c} {table} {h} {k} v n r en x =
    let e : k + (r - k) ≡ r = omega (arith, x.from) in
    subst (λ (y : ℕ). Rising w b c table h y) e (climb (r - k) (omega (arith, x.from)))
  where
    climb : (d : ℕ) → k + d ≤ r → Rising w b c table h (k + d)
    climb zero l = let e : k ≡ k + 0 = omega arith in subst (λ (y : ℕ). Rising w b c table h y) e v
    climb (suc d) l =
        let e : suc (k + d) ≡ k + suc d = omega arith in
        subst (λ (y : ℕ). Rising w b c table h y) e
        (rising_empty (climb d (omega arith)) n en (omega (arith, x.to)) (λ j lj f. omega (arith, x.none j lj (omega (arith, f)), f)))

-- the least number of live items that one of the table's first i pages has
pub record Least (table : List ℕ) (i k most r : ℕ) : Type 0 where
  pub from : k ≤ r
  pub to : r ≤ most
  pub none : (j : ℕ) → j < i → k ≤ live_in (get_or table j 0) → r ≤ live_in (get_or table j 0)

pub next_start : (table : List ℕ) (k most : ℕ) → k ≤ most → Least table 0 k most most
next_start table k most l = record { from = l; to = omega arith; none = λ j n. absurd (omega arith) }

-- one page more of the table is looked at
module _ {table : List ℕ} {i k most r : ℕ} (x : Least table i k most r) (e live : ℕ) (ee : e ≡ get_or table i 0) (el : live ≡ live_in e) where
  read : live_in (get_or table i 0) ≡ live
  read = ap live_in (sym ee) ∙ sym el

  more : (r' : ℕ) → k ≤ r' → r' ≤ r → (k ≤ live → r' ≤ live) → Least table (i + 1) k most r'
  more r' a b f = record { from = a; to = omega (arith, x.to); none = λ j n o. go j n o (ℕ_discrete j i) }
    where
      go : (j : ℕ) → j < i + 1 → k ≤ live_in (get_or table j 0) → Dec (j ≡ i) → r' ≤ live_in (get_or table j 0)
      go j n o (yes z) = let t : live_in (get_or table j 0) ≡ live = ap (λ (y : ℕ). live_in (get_or table y 0)) z ∙ read in omega (arith, t, f (omega (arith, t)))
      go j n o (no z) = omega (arith, x.none j (omega arith) o)

  pub next_less : k ≤ live → live < r → Least table (i + 1) k most live
  next_less a b = more live a (omega arith) (λ _. omega arith)

  pub next_same : (k ≤ live → r ≤ live) → Least table (i + 1) k most r
  next_same f = more r x.from (omega arith) f

pub next_done : {table : List ℕ} {i k most r : ℕ} → Least table i k most r → length table ≤ i → NextLevel table k most r
next_done x m = record { from = x.from; to = x.to; none = λ j n. x.none j (omega arith) }

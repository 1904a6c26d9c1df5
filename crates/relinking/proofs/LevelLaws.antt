-- The pages of the table with k live items are pushed, from the last to the first.
use Rattle.std.proofs.Common.{ℕ, suc, ◌≤◌, ◌<◌, ◌≡◌, sym, ap, subst, ◌∙◌, List, [], ◌++◌, arith, length, get_or, drop}
use Rattle.std.proofs.Math.Seq.{drop-length}
use Rattle.words.specs.Width.{Width}
use Rattle.words.specs.Word.{Bytes}
use Rattle.model.specs.Shape.{shape, start}
use Rattle.model.specs.Parts.{first_item_at}
use Rattle.model.specs.Layout.{Layout}
use Rattle.model.specs.Sound.{idle_slots}
use Rattle.model.specs.Reading.{held_in}
use Rattle.model.specs.Sweeping.{idle_with}
use Rattle.model.specs.inner.Laid.{Laid}
use Rattle.model.proofs.walks.Totals.{held_few}
use Rattle.relinking.specs.Relink.{live_room, entry_of, page_in, live_in, Leaf, leaves, PageThere, in_front, Became, PageReady, PagePushed, Gathered, LevelReady, LevelPushed}
use Rattle.relinking.proofs.Front.{became_length, became_start, front_none, front_then}
use Rattle.relinking.proofs.PageItems.{page_count, there_listing}
use Rattle.relinking.proofs.Leaves.{live_room_lem, entry_page, entry_live, length_entries}
use Rattle.relinking.proofs.Levels.{blank, get_entries, level_of, level_is, level_this, level_other, leaf_there}

-- the pages of class c, and the one with number j
abbrev pub pages : ℕ → ℕ → Layout → List Leaf
pages w c L = leaves (shape w) c (start (shape w)) L.blocks

abbrev pub nth : ℕ → ℕ → Layout → ℕ → Leaf
nth w c L j = get_or (pages w c L) j blank

-- those from number i on are pushed
pub record Levelling (w : ℕ) (b : List ℕ) (c : ℕ) (table : List ℕ) (k : ℕ) (h : List ℕ) (i : ℕ) : Type 0 where
  pub heap : LevelReady w b c table
  pub bytes : Bytes b
  pub few : i ≤ length table
  pub became : (L : Layout) → Laid w b L → Gathered w c L table → Became w b (in_front c (level_of (shape w) k c (drop i (pages w c L))) L) h

-- the table has an entry for each page
pub table_length : {w c : ℕ} {L : Layout} {table : List ℕ} → Gathered w c L table → length (pages w c L) ≡ length table
table_length {w} {c} {L} {table} g = sym (length_entries (pages w c L)) ∙ ap length (sym g.are)

-- what its entry with number j says
module _ {w : ℕ} (wd : Width w) {b : List ℕ} {c : ℕ} {table : List ℕ} {L : Layout} (y : Laid w b L) (g : Gathered w c L table) (j : ℕ) (l : j < length table) where
  in_leaves : j < length (pages w c L)
  in_leaves = omega (arith, table_length g)

  there : PageThere w L (nth w c L j).at c (nth w c L j).slots
  there = leaf_there L c j in_leaves

  entry_is : get_or table j 0 ≡ entry_of (nth w c L j).at (held_in (nth w c L j).slots)
  entry_is = ap (λ (l : List ℕ). get_or l j 0) g.are ∙ get_entries j (pages w c L) in_leaves

  small : held_in (nth w c L j).slots < live_room
  small = omega (arith, held_few (nth w c L j).slots, page_count wd y there, live_room_lem wd c)

  page_at_lem : page_in (get_or table j 0) ≡ (nth w c L j).at
  page_at_lem = ap page_in entry_is ∙ entry_page (nth w c L j).at (held_in (nth w c L j).slots) small

  pub live_is : live_in (get_or table j 0) ≡ held_in (nth w c L j).slots
  live_is = ap live_in entry_is ∙ entry_live (nth w c L j).at (held_in (nth w c L j).slots) small

pub level_start : {w : ℕ} {b : List ℕ} {c : ℕ} {table : List ℕ} → LevelReady w b c table → Bytes b → (k : ℕ) → Levelling w b c table k b (length table)
unfolding level_of
level_start {w} {b} {c} {table} r bytes k =
    record {
      heap = r;
      bytes = bytes;
      few = omega arith;
      became = λ L h g.
          let e : drop (length table) (pages w c L) ≡ [] =
          ap (λ (y : ℕ). drop y (pages w c L)) (sym (table_length g)) ∙ drop-length (pages w c L) in
          subst (λ (xs : List Leaf). Became w b (in_front c (level_of (shape w) k c xs) L) b) (sym e) (front_none c (became_start r.width bytes r.short h));
    }

module _ {w : ℕ} {b : List ℕ} {c : ℕ} {table : List ℕ} {k : ℕ} {h : List ℕ} {i : ℕ} (v : Levelling w b c table k h i) where
  pub level_length : length h ≡ length b
  level_length = became_length (v.became v.heap.layout v.heap.laid v.heap.gathered)

  pub level_done : i ≡ 0 → LevelPushed w b c table k h
  level_done e =
      record {
        is = λ L y g.
            let z : level_of (shape w) k c (drop i (pages w c L)) ≡ idle_with (shape w) k c (start (shape w)) L.blocks =
            ap (λ (j : ℕ). level_of (shape w) k c (drop j (pages w c L))) e ∙ sym (level_is (shape w) k c (start (shape w)) L.blocks) in
            subst (λ (l : List ℕ). Became w b (in_front c l L) h) z (v.became L y g);
      }

  -- j is the number of the page, e its entry, p and n what that says, as code works them out
  module _ (j : ℕ) (ej : i ≡ suc j) (e : ℕ) (ee : e ≡ get_or table j 0) where
    module _ {L : Layout} (y : Laid w b L) (g : Gathered w c L table) where
      lj : j < length table
      lj = omega (arith, v.few)

      page_is : page_in e ≡ (nth w c L j).at
      page_is = ap page_in ee ∙ page_at_lem v.heap.width y g j lj

      held_is : live_in e ≡ held_in (nth w c L j).slots
      held_is = ap live_in ee ∙ live_is v.heap.width y g j lj

      -- in the heap as it is now
      there_now : (p : ℕ) → p ≡ page_in e → PageThere w (in_front c (level_of (shape w) k c (drop i (pages w c L))) L) p c (nth w c L j).slots
      there_now p ep = rw (ep ∙ page_is) (there_listing c (level_of (shape w) k c (drop i (pages w c L)) ++ get_or L.lists c []) (there v.heap.width y g j lj))

      push_it : (p n : ℕ) → p ≡ page_in e → n ≡ live_in e → n ≡ k → {d : List ℕ} → PagePushed w h p c d → Became w b (in_front c (level_of (shape w) k c (drop j (pages w c L))) L) d
      push_it p n ep en is {d} q =
          let xs = level_of (shape w) k c (drop i (pages w c L)) in
          let z = v.became L y g in
          let items = idle_slots (shape w) c (first_item_at (shape w) p) (nth w c L j).slots in
          let f = front_then v.heap.width v.bytes v.heap.short L c v.heap.class xs z items (q.is (in_front c xs L) (nth w c L j).slots z.laid (there_now p ep)) in
          let same : items ++ xs ≡ level_of (shape w) k c (drop j (pages w c L)) =
          ap (λ (a : ℕ). idle_slots (shape w) c (first_item_at (shape w) a) (nth w c L j).slots ++ xs) (ep ∙ page_is)
          ∙ ap (λ (o : ℕ). idle_slots (shape w) c (first_item_at (shape w) (nth w c L j).at) (nth w c L j).slots ++ level_of (shape w) k c (drop o (pages w c L))) ej
          ∙ sym (level_this (shape w) k c j (pages w c L) (in_leaves v.heap.width y g j lj) (sym held_is ∙ sym en ∙ is)) in
          subst (λ (l : List ℕ). Became w b (in_front c l L) d) same f

      pass_it : (n : ℕ) → n ≡ live_in e → (n ≡ k → ⊥) → Became w b (in_front c (level_of (shape w) k c (drop j (pages w c L))) L) h
      pass_it n en not =
          let same : level_of (shape w) k c (drop i (pages w c L)) ≡ level_of (shape w) k c (drop j (pages w c L)) =
          ap (λ (o : ℕ). level_of (shape w) k c (drop o (pages w c L))) ej
          ∙ sym (level_other (shape w) k c j (pages w c L) (in_leaves v.heap.width y g j lj) (λ z. not (en ∙ held_is ∙ z))) in
          subst (λ (l : List ℕ). Became w b (in_front c l L) h) same (v.became L y g)

    pub level_page : (p : ℕ) → p ≡ page_in e → PageReady w h p c
    level_page p ep =
        let r = v.heap in
        let z = v.became r.layout r.laid r.gathered in
        record {
          width = r.width;
          layout = in_front c (level_of (shape w) k c (drop i (pages w c r.layout))) r.layout;
          laid = z.laid;
          short = omega (arith, became_length z, r.short);
          slots = (nth w c r.layout j).slots;
          there = there_now r.laid r.gathered p ep;
        }

    pub level_pushed : (p n : ℕ) → p ≡ page_in e → n ≡ live_in e → n ≡ k → {d : List ℕ} → PagePushed w h p c d → Levelling w b c table k d j
    level_pushed p n ep en is {d} q = record { heap = v.heap; bytes = v.bytes; few = omega (arith, v.few); became = λ L y g. push_it y g p n ep en is q }

    pub level_passed : (n : ℕ) → n ≡ live_in e → (n ≡ k → ⊥) → Levelling w b c table k h j
    level_passed n en not = record { heap = v.heap; bytes = v.bytes; few = omega (arith, v.few); became = λ L y g. pass_it y g n en not }

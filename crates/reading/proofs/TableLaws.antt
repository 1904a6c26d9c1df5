-- What the table's walk shows at each block.
use Rattle.std.proofs.Common.{ℕ, zero, suc, ◌+◌, ◌-◌, ◌^◌, ◌≤◌, ◌<◌, ◌≡◌, refl, sym, ap, ap₂, subst, ◌∙◌, List, [], ◌∷◌, ◌++◌, arith, cond, eqb, ne_eqb, length, get_or, set, replicate}
use Rattle.std.proofs.Math.Decide.{ℕ_discrete}
use Rattle.words.specs.Width.{Width}
use Rattle.words.specs.Word.{word_at}
use Rattle.model.specs.Shape.{shape, end_of}
use Rattle.model.specs.Parts.{free_kind, variable_kind, page_kind, size_in, kind_in}
use Rattle.model.specs.Layout.{Slot, variable, page, Block, free, used}
use Rattle.model.specs.Sound.{Allowed, AllowedUse, AllAllowed}
use Rattle.model.specs.Reading.{total, held_in, of_block, of_page, row, rows_from, table}
use Rattle.model.proofs.walks.Totals.{row_below, rows_free, rows_variable, rows_page, row_page, rows_get}
use Rattle.reading.specs.declared.counting.Page.{Page}
use Rattle.reading.specs.Counting.{table_rows, PageAt, PageTold, RowRoom, Going, row_and}
use Rattle.reading.specs.Stepping.{KindTold, BlockRead}
use Rattle.reading.specs.declared.stepping.Kind.{Kind}
use Rattle.reading.specs.declared.stepping.Kind.TheVariants as kinds
use Rattle.reading.specs.declared.stepping.MetBlock.{MetBlock}
use Rattle.reading.specs.Blocks.{Turned}
use Rattle.reading.proofs.IterLaws.{read_below, read_page_at, turn_read, turn_on, turn_at, turn_going}
use Rattle.reading.proofs.ReadingLaws.{page_flag, page_small, going_some, going_free, going_variable, going_page}

row_of : {w : ℕ} → Width w → (rows : List (List ℕ)) (pre : List Block) (c : ℕ) → rows ≡ rows_from table_rows 0 pre → c < table_rows → get_or rows c [] ≡ row c pre
row_of wd rows pre c e l = ap (λ (x : List (List ℕ)). get_or x c []) e ∙ rows_get wd table_rows 0 c pre l ∙ ap (λ (x : ℕ). row x pre) (omega arith)

-- the rows of classes that there are not are 0, so the rows are the table and rows of 0
module _ {w : ℕ} (wd : Width w) where
  none_of : (d : ℕ) → (shape w).classes ≤ d → (n : ℕ → List Slot → ℕ) (bs : List Block) → AllAllowed (shape w) bs → total (of_page (λ c ss. cond (eqb c d) (n c ss) 0)) bs ≡ 0
  unfolding total of_block AllAllowed Allowed AllowedUse
  none_of d l n [] a = refl
  none_of d l n (free s ∷ bs) a = omega (arith, none_of d l n bs a.1)
  none_of d l n (used (variable s) ∷ bs) a = omega (arith, none_of d l n bs a.1)
  none_of d l n (used (page c k ss) ∷ bs) a = rw (ne_eqb c d (λ e. omega (arith, a.0.0))) (omega (arith, none_of d l n bs a.1))

  blank : (n d : ℕ) (bs : List Block) → (shape w).classes ≤ d → AllAllowed (shape w) bs → rows_from n d bs ≡ replicate n (0 ∷ 0 ∷ 0 ∷ [])
  unfolding rows_from row
  blank zero d bs l a = refl
  blank (suc n) d bs l a = rw (none_of d l (λ c ss. 1) bs a, none_of d l (λ c ss. held_in ss) bs a, none_of d l (λ c ss. length ss - held_in ss) bs a, blank n (d + 1) bs (omega arith) a)

  more_rows : (n m d : ℕ) (bs : List Block) → rows_from (n + m) d bs ≡ rows_from n d bs ++ rows_from m (d + n) bs
  unfolding rows_from
  more_rows zero m d bs =
      let e : 0 + m ≡ m = omega arith in
      let f : d ≡ d + 0 = omega arith in
      ap₂ (λ (n x : ℕ). rows_from n x bs) e f
  more_rows (suc n) m d bs =
      let e : suc n + m ≡ suc (n + m) = omega arith in
      let f : d + 1 + n ≡ d + suc n = omega arith in
      ap (λ (x : ℕ). rows_from x d bs) e ∙ ap (λ (l : List (List ℕ)). row d bs ∷ l) (more_rows n m (d + 1) bs ∙ ap (λ (x : ℕ). rows_from n (d + 1) bs ++ rows_from m x bs) f)

  pub table_rows_lem : (bs : List Block) → AllAllowed (shape w) bs → rows_from table_rows 0 bs ≡ table (shape w) bs ++ replicate (table_rows - (shape w).classes) (0 ∷ 0 ∷ 0 ∷ [])
  table_rows_lem bs a =
      let e : table_rows ≡ (shape w).classes + (table_rows - (shape w).classes) = omega arith in
      ap (λ (n : ℕ). rows_from n 0 bs) e ∙ more_rows (shape w).classes (table_rows - (shape w).classes) 0 bs ∙ ap (λ (l : List (List ℕ)). table (shape w) bs ++ l) (blank (table_rows - (shape w).classes) (0 + (shape w).classes) bs (omega arith) a)

module _ {w : ℕ} {b : List ℕ} {p : ℕ} {rows : List (List ℕ)} (g : Going w (rows_from table_rows 0) b p rows) where
  pub table_small : (c : ℕ) → c < table_rows → (get_or (get_or rows c []) 0 0 ≤ p) × (get_or (get_or rows c []) 1 0 ≤ p) × (get_or (get_or rows c []) 2 0 ≤ p)
  table_small c l =
      let s = going_some (rows_from table_rows 0) g in
      let z = row_below g.width p s.pre s.allowed s.begins c (get_or rows c []) (row_of g.width rows s.pre c s.so_far l) in
      (z.pages, z.live, z.free)

  module _ (t : ℕ) (e : t ≡ word_at w b p) (l : p < end_of (length b)) where
    pub table_plain : (kind_in t ≡ page_kind → ⊥) → (s : ℕ) → s ≡ size_in t → Going w (rows_from table_rows 0) b (p + s) rows
    table_plain z s es = rw es (go (ℕ_discrete (kind_in t) free_kind) (ℕ_discrete (kind_in t) variable_kind))
      where
        go : Dec (kind_in t ≡ free_kind) → Dec (kind_in t ≡ variable_kind) → Going w (rows_from table_rows 0) b (p + size_in t) rows
        go (yes a) d = going_free (rows_from table_rows 0) g t e l a rows (λ pre s. s ∙ sym (rows_free g.width table_rows 0 (size_in t) pre))
        go (no n) (yes a) = going_variable (rows_from table_rows 0) g t e l a rows (λ pre s. s ∙ sym (rows_variable g.width table_rows 0 (size_in t) pre))
        go (no n) (no m) = absurd (z (page_flag (rows_from table_rows 0) g t e l n m))

    pub table_page : kind_in t ≡ page_kind → (s : ℕ) → s ≡ size_in t → (r : Page) → ((c k : ℕ) (ss : List Slot) → PageAt w b p c k ss → PageTold r c ss)
        → (u : List ℕ) → u ≡ row_and (get_or rows r.class []) r.held r.idle → Going w (rows_from table_rows 0) b (p + s) (set rows r.class u)
    unfolding row
    table_page z s es r d u eu = rw es (going_page (rows_from table_rows 0) g t e l (λ y. omega arith) (λ y. omega arith) (set rows r.class u) more)
      where
        more : (pre : List Block) (c k : ℕ) (ss : List Slot) → PageAt w b p c k ss → rows ≡ rows_from table_rows 0 pre → set rows r.class u ≡ rows_from table_rows 0 (pre ++ (used (page c k ss) ∷ []))
        more pre c k ss a s =
            let q = d c k ss a in
            let old : get_or rows r.class [] ≡ row c pre = ap (λ (x : ℕ). get_or rows x []) q.class ∙ row_of g.width rows pre c s (omega (arith, a.few, g.width)) in
            let three : get_or (get_or rows r.class []) 0 0 ∷ get_or (get_or rows r.class []) 1 0 ∷ get_or (get_or rows r.class []) 2 0 ∷ [] ≡ row c pre = ap (λ (x : List ℕ). get_or x 0 0 ∷ get_or x 1 0 ∷ get_or x 2 0 ∷ []) old in
            let new : u ≡ row c (pre ++ (used (page c k ss) ∷ [])) = eu ∙ row_page g.width pre c k ss _ _ _ r.held r.idle three q.held q.idle in
            ap₂ (λ (x : List (List ℕ)) (y : List ℕ). set x r.class y) s new
            ∙ ap (λ (x : ℕ). set (rows_from table_rows 0 pre) x (row c (pre ++ (used (page c k ss) ∷ [])))) q.class
            ∙ sym (rows_page g.width pre c k ss table_rows 0 c (omega arith) (omega (arith, a.few, g.width)))

-- the loop's turn at the block r: a page's row grows, and has room; any other block leaves the rows
module _ {w : ℕ} {b h h' : List ℕ} {p p' : ℕ} {rows : List (List ℕ)} {r : MetBlock} (i : (h ≡ b) × Going w (rows_from table_rows 0) b p rows) (n : Turned w h p r h' p') where
  k : BlockRead w b r.position.0 r
  k = turn_read i.0 n

  g : Going w (rows_from table_rows 0) b r.position.0 rows
  g = turn_going i.0 n i.1

  module _ (c : ℕ) (z : r.kind ≡ kinds.Page c) (q : Page) (d : (c k : ℕ) (ss : List Slot) → PageAt w b r.position.0 c k ss → PageTold q c ss) where
    pub tabled_room : length b < 2 ^ 63 → (q.class < table_rows) × RowRoom (get_or rows q.class []) q.held q.idle
    tabled_room m =
        let small : (q.class < table_rows) × (q.held ≤ 4097) × (q.idle ≤ 4097) = omega (arith, page_small (read_page_at k c z) q d, g.width) in
        omega (arith, small, table_small g q.class small.0, k.inside, g.width, m)

    pub tabled_on : (u : List ℕ) → u ≡ row_and (get_or rows q.class []) q.held q.idle → (h' ≡ b) × Going w (rows_from table_rows 0) b p' (set rows q.class u)
    tabled_on u e =
        let y : kind_in (word_at w b r.position.0) ≡ page_kind = rw z at k.kind_is in
        (turn_on i.0 n, subst (λ (x : ℕ). Going w (rows_from table_rows 0) b x (set rows q.class u)) (turn_at i.0 n) (table_page g _ refl (read_below k) y r.size k.sized q d u e))

  pub tabled_off : ((c : ℕ) → r.kind ≡ kinds.Page c → ⊥) → (h' ≡ b) × Going w (rows_from table_rows 0) b p' rows
  tabled_off z = (turn_on i.0 n, subst (λ (x : ℕ). Going w (rows_from table_rows 0) b x rows) (turn_at i.0 n) (table_plain g _ refl (read_below k) (λ e. go r.kind refl (rw e at k.kind_is)) r.size k.sized))
    where
      go : (x : Kind) → r.kind ≡ x → KindTold page_kind x → ⊥
      go (kinds.Free n m) e y = omega (arith, y)
      go kinds.Variable e y = omega (arith, y)
      go (kinds.Page c) e y = z c e

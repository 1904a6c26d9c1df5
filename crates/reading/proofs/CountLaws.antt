-- What the statistics' walk shows at each block.
use Rattle.std.proofs.Common.{ℕ, ◌+◌, ◌≤◌, max, ◌≡◌, refl, arith, List, []}
use Rattle.words.specs.Word.{word_at}
use Rattle.model.specs.Parts.{free_kind, variable_kind, page_kind, size_in, kind_in}
use Rattle.model.specs.Layout.{Slot}
use Rattle.model.specs.Reading.{Statistics, total, greatest, counted}
use Rattle.model.proofs.walks.Totals.{counted_below, counted_free, counted_variable, counted_page}
use Rattle.reading.specs.declared.counting.Page.{Page}
use Rattle.reading.specs.declared.counting.Statistics as declared
use Rattle.reading.specs.Counting.{PageAt, PageTold, Going, told}
use Rattle.model.specs.declared.Position.{Position}
use Rattle.reading.specs.Stepping.{BlockRead}
use Rattle.reading.specs.declared.stepping.Kind.TheVariants as kinds
use Rattle.reading.specs.declared.stepping.Kind.TheVariants.{Free, Variable}
use Rattle.reading.specs.declared.stepping.MetBlock.{MetBlock}
use Rattle.reading.proofs.IterLaws.{read_below}
use Rattle.reading.proofs.ReadingLaws.{going_some, going_free, going_variable, going_page}

-- before any block all are 0
pub told_none : (s : declared.Statistics) → (s.free_bytes ≡ 0) × ((s.free_blocks ≡ 0) × ((s.largest_free ≡ 0) × ((s.variables ≡ 0) × ((s.pages ≡ 0) × (s.items ≡ 0))))) → told s ≡ counted []
unfolding counted total greatest
told_none s z = cc

module _ {w : ℕ} {b : List ℕ} {p : ℕ} {v : Statistics} (g : Going w counted b p v) where
  pub count_small : (v.free_bytes ≤ p) × (v.free_blocks ≤ p) × (v.variables ≤ p) × (v.pages ≤ p) × (v.items ≤ p)
  count_small =
      let s = going_some counted g in
      let z = counted_below g.width p s.pre s.allowed s.begins v s.so_far in
      (z.free_bytes, z.free_blocks_lem, z.variables, z.pages, z.items)

  module _ {r : MetBlock} (k : BlockRead w b p r) where
    pub count_free : (n m : Position) → r.kind ≡ Free n m → (x : ℕ) → x ≡ max v.largest_free r.size
        → Going w counted b (p + r.size) (record { free_bytes = v.free_bytes + r.size; free_blocks = v.free_blocks + 1; largest_free = x; variables = v.variables; pages = v.pages; items = v.items })
    count_free n m z x e =
        let y : kind_in (word_at w b p) ≡ free_kind = rw z at k.kind_is in
        rw k.sized (going_free counted g _ refl (read_below k) y _ (λ pre f. counted_free g.width pre v f (size_in (word_at w b p)) x (rw k.sized at e)))

    pub count_variable : r.kind ≡ Variable
        → Going w counted b (p + r.size) (record { free_bytes = v.free_bytes; free_blocks = v.free_blocks; largest_free = v.largest_free; variables = v.variables + 1; pages = v.pages; items = v.items })
    count_variable z =
        let y : kind_in (word_at w b p) ≡ variable_kind = rw z at k.kind_is in
        rw k.sized (going_variable counted g _ refl (read_below k) y _ (λ pre s. counted_variable g.width pre v s (size_in (word_at w b p))))

    pub count_page : (c : ℕ) → r.kind ≡ kinds.Page c → (q : Page) → ((c k : ℕ) (ss : List Slot) → PageAt w b p c k ss → PageTold q c ss)
        → Going w counted b (p + r.size) (record { free_bytes = v.free_bytes; free_blocks = v.free_blocks; largest_free = v.largest_free; variables = v.variables; pages = v.pages + 1; items = v.items + q.held })
    count_page c z q d =
        let y : kind_in (word_at w b p) ≡ page_kind = rw z at k.kind_is in
        rw k.sized (going_page counted g _ refl (read_below k) (λ x. omega arith) (λ x. omega arith) _ (λ pre c k ss a s. counted_page g.width pre v s c k ss q.held (d c k ss a).held))

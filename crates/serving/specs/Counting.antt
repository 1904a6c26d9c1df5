-- What the answers of statistics and the table mean.
use Rattle.std.specs.Prelude.{ℕ, ◌-◌, List, [], ◌∷◌, ◌++◌, replicate, Result, Ok, Err}
use Rattle.model.specs.Shape.{shape}
use Rattle.model.specs.Layout.{Block}
use Rattle.model.specs.Reading as reading
use Rattle.model.specs.Reading.{counted, table}
use Rattle.model.specs.Calls.{Told, Checked}
use Rattle.model.specs.Refused.{refusal_number}
use Rattle.model.specs.declared.refusals.Refusal.{Refusal}
use Rattle.reading.specs.Counting.{table_rows, told}
use Rattle.reading.specs.declared.counting.Statistics.{Statistics}
use Rattle.serving.specs.declared.counting.Counted.{Counted}

-- the statistics with the refusal 0, or a refusal with nothing counted
abbrev pub told_counted : Result Statistics Refusal → Told reading.Statistics
told_counted (Ok s) = record { refusal = 0; answer = told s }
told_counted (Err k) = record { refusal = refusal_number k; answer = counted [] }

-- what a program prints of the statistics: the same, side by side
abbrev pub printed_count : Counted → Told reading.Statistics
printed_count r = record { refusal = r.refusal; answer = told r.statistics }

-- the rows that are answered: the table, and zeros for each class that there is not at this word size
abbrev pub rows_of : ℕ → List Block → List (List ℕ)
rows_of w bs = table (shape w) bs ++ replicate (table_rows - (shape w).classes) (0 ∷ 0 ∷ 0 ∷ [])

-- the table with the refusal 0, or a refusal with the rows of no block
abbrev pub told_table : ℕ → Result (List (List ℕ)) Refusal → Told (List (List ℕ))
told_table w (Ok t) = record { refusal = 0; answer = t }
told_table w (Err k) = record { refusal = refusal_number k; answer = rows_of w [] }

-- the table: that of the heap's layout, or zeros where the statistics' number says no
abbrev pub TableTold : ℕ → List ℕ → List (List ℕ) → Type 0
TableTold w b t = Checked (shape w) b (λ k. rows_of w []) (λ L. rows_of w L.blocks) t

-- the table is that of the heap's layout, and where there is none the refusal is the statistics'
abbrev pub TriedTable : ℕ → List ℕ → Result (List (List ℕ)) Refusal → Type 0
TriedTable w b r = Checked (shape w) b (λ k. record { refusal = k; answer = rows_of w [] }) (λ L. record { refusal = 0; answer = rows_of w L.blocks }) (told_table w r)

-- What is demanded of a call list's record.
use Rattle.std.specs.Prelude.{ℕ, ◌≡◌, List}
use Rattle.records.specs.declared.Played.{Played}
use Rattle.records.specs.Lines.{Plays}

-- Any two results that a call list's record may have are equal
abbrev pub OnePlay : Type 0
OnePlay = (b : List ℕ) (lent kind : ℕ) (body : List ℕ) (r r' : Played) (c c' : List ℕ) → Plays b lent kind body r c → Plays b lent kind body r' c' → (r ≡ r') × (c ≡ c')

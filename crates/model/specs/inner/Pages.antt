-- How long a page is at least. Contracts of inner calls name this; no public contract does, so no reader has to believe it.
use Rattle.std.specs.Prelude.{ℕ, cond, eqb}

-- with words of w bytes, no page is shorter
abbrev pub least_page : ℕ → ℕ
least_page w = cond (eqb w 8) 4096 32

-- What freeing an address asks and promises.
use Rattle.std.specs.Prelude.{ℕ, ◌≡◌, Option, Some, None, ⊤, List}
use Rattle.model.specs.Shape.{shape}
use Rattle.model.specs.Layout.{Layout}
use Rattle.model.specs.Sound.{Here, Sound}
use Rattle.model.specs.Rules.{Found, block, thing, nothing, find, freed}
use Rattle.model.specs.Calls.{drawn}

-- whether something was found, and the bytes then
abbrev pub is_found : Found → Option ⊤
is_found nothing = None
is_found (block t) = Some tt
is_found (thing o c n) = Some tt

abbrev pub freed_bytes : ℕ → List ℕ → Layout → Found → List ℕ
freed_bytes w b L nothing = b
freed_bytes w b L (block t) = drawn (shape w) (freed (shape w) (block t) L) b
freed_bytes w b L (thing o c n) = drawn (shape w) (freed (shape w) (thing o c n) L) b

pub record GivesBack (w : ℕ) (b : List ℕ) (a : ℕ) (r : Option ⊤) (c : List ℕ) : Type 0 where
  pub answer : (L : Layout) → Here (shape w) b L → r ≡ is_found (find (shape w) a L)
  pub bytes : (L : Layout) → Here (shape w) b L → c ≡ freed_bytes w b L (find (shape w) a L)
  pub sound : Sound (shape w) c

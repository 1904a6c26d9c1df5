-- Allocate: what the answer shows of the contract.
use Rattle.std.proofs.Common.{ℕ, ◌≡◌, refl, ◌∙◌, List, Option, Some, None, ok_or}
use Rattle.model.specs.Shape.{shape}
use Rattle.model.specs.Layout.{Layout}
use Rattle.model.specs.Sound.{HereIn}
use Rattle.model.specs.Calls.{allocated, growing}
use Rattle.model.specs.declared.Address.{Address}
use Rattle.model.specs.declared.refusals.Refusal.TheVariants.{NoRoom}
use Rattle.growing.specs.Growing.{taken_as, Takes}
use Rattle.serving.specs.Answers.{Answer, outcome}

as_taken : (t : Option Address) (r : Answer) (c : List ℕ) → r ≡ ok_or t NoRoom → outcome r c ≡ taken_as t c
as_taken (Some a) r c m = rw m refl
as_taken None r c m = rw m refl

pub allocates : (w : ℕ) (b : List ℕ) (n : ℕ) (t : Option Address) (r : Answer) (c : List ℕ) → Takes w b n t c → r ≡ ok_or t NoRoom → (L : Layout) → HereIn (shape w) b L
    → outcome r c ≡ growing (shape w) n b (λ h. allocated (shape w) h n) L
allocates w b n t r c g e L h = as_taken t r c e ∙ g.is L h

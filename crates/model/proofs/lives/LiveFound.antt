-- Something is found at an address where something is live there.
use Rattle.std.proofs.Common.{ℕ, ◌≡◌, refl, subst}
use Rattle.model.specs.Shape.{Shape, start}
use Rattle.model.specs.Layout.{Layout}
use Rattle.model.specs.Sound.{Valid}
use Rattle.model.specs.Rules.{Found, block, thing, nothing, find}
use Rattle.model.specs.Live.{◌∈◌, Payload, live}
use Rattle.model.proofs.Good.{Good}
use Rattle.model.proofs.lives.Moving.{live_found}

-- something was found
abbrev pub is_there : Found → ℕ
is_there nothing = 0
is_there (block t) = 1
is_there (thing o c n) = 1

pub there_is : (f : Found) → (f ≡ nothing → ⊥) → is_there f ≡ 1
there_is nothing n = absurd (n refl)
there_is (block t) n = refl
there_is (thing o c m) n = refl

pub live_is_there : (S : Shape) → Good S → {end : ℕ} {L : Layout} → Valid S end L → (a : ℕ) (x : Payload) → x ∈ live S L → x.address ≡ a → is_there (find S a L) ≡ 1
live_is_there S good {end} {L} v a x h e = subst (λ (z : ℕ). is_there (find S z L) ≡ 1) e (there_is (find S x.address L) (live_found S x (start S) L.blocks good v.allowed h).there)

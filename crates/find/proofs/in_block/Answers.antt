use Rattle.std.proofs.Common.{arith, refl, ◌∙◌}
use Rattle.find.proofs.FindLaws.{found_in_free, found_elsewhere, found_variable}
use Rattle.find.proofs.in_block.Goals as goal

pub returns-then-kind-eq-FREE : goal.returns-then-kind-eq-FREE
returns-then-kind-eq-FREE g c = λ L h. found_in_free c.requires L h (omega arith)

pub in_page-requires : goal.in_page-requires
in_page-requires g c = record { tag = _; prev = _; touching = _; block = c.requires; not_free = λ z. c.if-kind-eq-FREE.false (c.kind_in-kind.ensures ∙ z); not_variable = λ z. c.if-kind-ne-VARIABLE.true (c.kind_in-kind.ensures ∙ z) }

pub address_of-requires : goal.address_of-requires
address_of-requires g c = omega (arith, c.requires.width, c.requires.from, c.requires.below)

pub returns-then-a-address_of : goal.returns-then-a-address_of
returns-then-a-address_of g c = λ L h. found_elsewhere c.requires L h (omega arith) (λ e. c.if-a-address_of.true (omega (arith, e, c.address_of.ensures)))

pub returns : goal.returns
returns g c = λ L h. found_variable c.requires L h _ _ _ refl refl c.size_in.ensures (omega arith) (omega (arith, c.if-a-address_of.false, c.address_of.ensures))

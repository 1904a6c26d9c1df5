use Rattle.std.proofs.Common.{sym, ◌∙◌, arith}
use Rattle.telling.proofs.Tellings.{clash}
use Rattle.examining.proofs.Examining.{part_lent}
use Rattle.serving.proofs.Opening.{opens_not_lent, opens_again, opens_badly, opens_fresh}
use Rattle.serving.proofs.initialise.Goals as goal

pub returns-then-not-is_lent : goal.returns-then-not-is_lent
returns-then-not-is_lent g c = opens_not_lent _ _ _ (λ l. clash _ c.if-not-is_lent.true (c.is_lent.ensures.is_yes l))

pub word-requires : goal.word-requires
word-requires g c = omega (arith, (c.is_lent.ensures.yes_is c.if-not-is_lent.false))

pub returns-then-word-magic : goal.returns-then-word-magic
returns-then-word-magic g c = opens_again _ _ _ (c.is_lent.ensures.yes_is c.if-not-is_lent.false) _ c.word.ensures (c.if-word-magic.true ∙ c.magic.ensures)

pub may_end-requires : goal.may_end-requires
may_end-requires g c = let l = (c.is_lent.ensures.yes_is c.if-not-is_lent.false) in (l.0, l.1)

pub returns-then-not-may_end : goal.returns-then-not-may_end
returns-then-not-may_end g c = opens_badly _ _ _ (c.is_lent.ensures.yes_is c.if-not-is_lent.false) _ c.word.ensures (λ e. c.if-word-magic.false (e ∙ sym c.magic.ensures)) _ c.may_end.ensures c.if-not-may_end.true

pub slice_bounds-lay-end : goal.slice_bounds-lay-end
slice_bounds-lay-end g c = omega (arith, c.may_end.ensures.yes_is c.if-not-may_end.false)

pub lay-requires : goal.lay-requires
lay-requires g c = part_lent _ _ g.met.W.Width.width (c.is_lent.ensures.yes_is c.if-not-is_lent.false) _ (c.may_end.ensures.yes_is c.if-not-may_end.false)

pub returns : goal.returns
returns g c = opens_fresh _ _ _ (c.is_lent.ensures.yes_is c.if-not-is_lent.false) _ c.word.ensures (λ e. c.if-word-magic.false (e ∙ sym c.magic.ensures)) _ c.may_end.ensures c.if-not-may_end.false _ c.lay.auto.h c.lay.ensures

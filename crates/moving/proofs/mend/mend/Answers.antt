use Rattle.std.proofs.Common.{sym, ◌∙◌, arith}
use Rattle.moving.proofs.MendLaws.{none_taken, prev_room, still_free, behind_room, rest_free, none_free}
use Rattle.moving.proofs.mend.mend.Goals as goal

pub returns-then-x-eq0 : goal.returns-then-x-eq0
returns-then-x-eq0 g c = none_taken c.requires c.if-x-eq0.true

pub word-t-requires : goal.word-t-requires
word-t-requires g c = omega (arith, prev_room c.requires c.if-x-eq0.false)

pub returns-then-kind_in-eq-FREE : goal.returns-then-kind_in-eq-FREE
returns-then-kind_in-eq-FREE g c = still_free c.requires c.if-x-eq0.false _ c.word-t.ensures (sym c.kind_in.ensures ∙ c.if-kind_in-eq-FREE.true)

pub overflow_add-q : goal.overflow_add-q
overflow_add-q g c = omega (arith, behind_room c.requires c.if-x-eq0.false _ c.word-t.ensures (λ z. c.if-kind_in-eq-FREE.false (c.kind_in.ensures ∙ z)) _ c.size_in.ensures)

pub word-requires : goal.word-requires
word-requires g c = behind_room c.requires c.if-x-eq0.false _ c.word-t.ensures (λ z. c.if-kind_in-eq-FREE.false (c.kind_in.ensures ∙ z)) _ c.size_in.ensures

pub returns-then-kind_in-eq-FREE-2 : goal.returns-then-kind_in-eq-FREE-2
returns-then-kind_in-eq-FREE-2 g c = rest_free c.requires c.if-x-eq0.false _ c.word-t.ensures (λ z. c.if-kind_in-eq-FREE.false (c.kind_in.ensures ∙ z)) _ c.size_in.ensures _ c.word.ensures (sym c.kind_in-2.ensures ∙ c.if-kind_in-eq-FREE-2.true)

pub returns : goal.returns
returns g c = none_free c.requires c.if-x-eq0.false _ c.word-t.ensures (λ z. c.if-kind_in-eq-FREE.false (c.kind_in.ensures ∙ z)) _ c.size_in.ensures _ c.word.ensures (λ z. c.if-kind_in-eq-FREE-2.false (c.kind_in-2.ensures ∙ z))

use Rattle.std.proofs.Common.{sym, ◌∙◌, arith, length}
use Rattle.model.specs.Shape.{shape}
use Rattle.model.specs.Sound.{MayEnd}
use Rattle.model.specs.Calls.{Lent}
use Rattle.telling.proofs.Tellings.{clash}
use Rattle.examining.proofs.Examining.{judged_length, judged_word, judged_end, judged_unsound, judged_fine, may_lend, own_part_lent}
use Rattle.examining.proofs.verdict.Goals as goal

pub returns-then-not-is_lent : goal.returns-then-not-is_lent
returns-then-not-is_lent g c = judged_length _ _ (λ l. clash _ c.if-not-is_lent.true (c.is_lent.ensures.is_yes l))

pub word-requires : goal.word-requires
word-requires g c =
    let lent : Lent (shape g.W.Width.BYTES) c.args.h.now = c.is_lent.ensures.yes_is c.if-not-is_lent.false in
    omega (arith, lent)

pub returns-then-word-magic : goal.returns-then-word-magic
returns-then-word-magic g c =
    let lent : Lent (shape g.W.Width.BYTES) c.args.h.now = c.is_lent.ensures.yes_is c.if-not-is_lent.false in
    judged_word _ _ lent _ c.word.ensures (λ e. c.if-word-magic.true (e ∙ sym c.magic.ensures))

pub stored_end-requires : goal.stored_end-requires
stored_end-requires g c =
    let lent : Lent (shape g.W.Width.BYTES) c.args.h.now = c.is_lent.ensures.yes_is c.if-not-is_lent.false in
    let l = lent in omega (arith, l.0)

pub may_end-requires : goal.may_end-requires
may_end-requires g c =
    let lent : Lent (shape g.W.Width.BYTES) c.args.h.now = c.is_lent.ensures.yes_is c.if-not-is_lent.false in
    let l = lent in (l.0, l.1)

pub returns-then-not-may_end : goal.returns-then-not-may_end
returns-then-not-may_end g c =
    let lent : Lent (shape g.W.Width.BYTES) c.args.h.now = c.is_lent.ensures.yes_is c.if-not-is_lent.false in
    judged_end _ _ lent _ c.word.ensures (c.if-word-magic.false ∙ c.magic.ensures) _ c.stored_end.ensures _ c.may_end.ensures c.if-not-may_end.true

pub heap_of-requires : goal.heap_of-requires
heap_of-requires g c =
    let lent : Lent (shape g.W.Width.BYTES) c.args.h.now = c.is_lent.ensures.yes_is c.if-not-is_lent.false in
    let may : MayEnd (shape g.W.Width.BYTES) (length c.args.h.now) c.stored_end.result.0 = c.may_end.ensures.yes_is c.if-not-may_end.false in
    let l = lent in (omega (arith, l.0), may_lend _ _ lent _ c.stored_end.ensures may)

pub is_sound-requires : goal.is_sound-requires
is_sound-requires g c =
    let lent : Lent (shape g.W.Width.BYTES) c.args.h.now = c.is_lent.ensures.yes_is c.if-not-is_lent.false in
    let may : MayEnd (shape g.W.Width.BYTES) (length c.args.h.now) c.stored_end.result.0 = c.may_end.ensures.yes_is c.if-not-may_end.false in
    own_part_lent _ _ lent _ c.stored_end.ensures may _ c.heap_of.ensures g.met.W.Width.width

pub returns-then-not-is_sound : goal.returns-then-not-is_sound
returns-then-not-is_sound g c =
    let lent : Lent (shape g.W.Width.BYTES) c.args.h.now = c.is_lent.ensures.yes_is c.if-not-is_lent.false in
    judged_unsound _ _ lent _ c.word.ensures (c.if-word-magic.false ∙ c.magic.ensures) _ c.heap_of.ensures _ c.is_sound.ensures c.if-not-is_sound.true

pub returns : goal.returns
returns g c =
    let lent : Lent (shape g.W.Width.BYTES) c.args.h.now = c.is_lent.ensures.yes_is c.if-not-is_lent.false in
    let may : MayEnd (shape g.W.Width.BYTES) (length c.args.h.now) c.stored_end.result.0 = c.may_end.ensures.yes_is c.if-not-may_end.false in
    judged_fine _ _ lent _ c.stored_end.ensures may _ c.heap_of.ensures _ c.is_sound.ensures c.if-not-is_sound.false

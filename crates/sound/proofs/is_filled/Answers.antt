use Rattle.std.proofs.Common.{◌≡◌, ℕ, [], length, sym, ap, ◌∙◌, arith, ne_eqb}
use Rattle.words.specs.Word.{word_at}
use Rattle.telling.proofs.Tellings.{tells_no, tells_so}
use Rattle.model.specs.Shape.{end_of}
use Rattle.model.specs.Parts.{page_kind, kind_in}
use Rattle.walking.specs.Told.{WholeMarked}
use Rattle.walking.proofs.Walks.{stood_end, stood_open, passed_on}
use Rattle.sound.proofs.FillLaws.{begins, link_inside}
use Rattle.sound.proofs.Agree.{agree_filled, agree_listed}
use Rattle.sound.proofs.is_filled.Goals as goal

pub is_filled_small-requires : goal.is_filled_small-requires
is_filled_small-requires g c =
    let page-first : kind_in (word_at g.W.Width.BYTES c.args.h.now c.begin.result.at.0) ≡ page_kind = ap (λ (x : ℕ). kind_in (word_at g.W.Width.BYTES c.args.h.now x)) (c.begin.ensures.0 ∙ sym c.start.ensures) ∙ sym (c.kind_in.ensures ∙ ap (λ (x : ℕ). kind_in x) c.word.ensures) ∙ c.if-kind_in-eq-PAGE.true in
    (record { stood = begins g.met.W.Width.width c.requires.0 c.requires.1 c.requires.2 _ c.begin.ensures; paused = λ _. record { variable = λ e. absurd (omega (arith, e, page-first)); free = λ e. absurd (omega (arith, e, page-first)) } }, c.requires.0)

pub returns-in_default : goal.returns-in_default
returns-in_default g c = rw c.requires.1 (tells_no _ (λ f. (passed_on (begins g.met.W.Width.width c.requires.0 c.requires.1 c.requires.2 _ c.begin-2.ensures) c.pass_blocks.ensures).is_no c.in_default.is f.onward))

pub is_filled_small-requires-then-s-ne0 : goal.is_filled_small-requires-then-s-ne0
is_filled_small-requires-then-s-ne0 g c =
    let z = (passed_on (begins g.met.W.Width.width c.requires.0 c.requires.1 c.requires.2 _ c.begin-2.ensures) c.pass_blocks.ensures).is_to _ c.in-Some.is in
    (record { stood = z.0; paused = z.1.0 }, c.requires.0)

pub word-requires-2 : goal.word-requires-2
word-requires-2 g c = link_inside ((passed_on (begins g.met.W.Width.width c.requires.0 c.requires.1 c.requires.2 _ c.begin-2.ensures) c.pass_blocks.ensures).is_to _ c.in-Some.is).0

pub returns-then-word-eq0 : goal.returns-then-word-eq0
returns-then-word-eq0 g c =
    let z = ((passed_on (begins g.met.W.Width.width c.requires.0 c.requires.1 c.requires.2 _ c.begin-2.ensures) c.pass_blocks.ensures).is_to _ c.in-Some.is).0 in
    let ended : WholeMarked g.W.Width.BYTES c.args.h.now (end_of (length c.args.h.now)) [] [] = stood_end z c.if-s-ne0.false (sym c.word-2.ensures ∙ c.if-word-eq0.true) in
    rw c.requires.1 (tells_so (agree_filled g.met.W.Width.width _ _ _ ended) (agree_listed g.met.W.Width.width _ _ _ ended) c.no_lists.ensures)

pub returns-else-word-eq0 : goal.returns-else-word-eq0
returns-else-word-eq0 g c =
    let z = ((passed_on (begins g.met.W.Width.width c.requires.0 c.requires.1 c.requires.2 _ c.begin-2.ensures) c.pass_blocks.ensures).is_to _ c.in-Some.is).0 in
    rw (c.requires.1, ne_eqb _ 0 c.if-word-eq0.false) (tells_no _ (λ f. stood_open z c.if-s-ne0.false (λ e. c.if-word-eq0.false (c.word-2.ensures ∙ e)) f.onward))

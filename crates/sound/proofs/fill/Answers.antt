use Rattle.std.proofs.Common.{[], length, Some, sym, ap, ◌∙◌, arith, ne_eqb}
use Rattle.telling.proofs.Tellings.{tells_no, tells_so}
use Rattle.model.specs.Shape.{end_of}
use Rattle.walking.specs.Told.{WholeMarked}
use Rattle.walking.proofs.Walks.{stood_end, stood_open}
use Rattle.sound.proofs.FillLaws.{walk_told, link_inside, fill_told, fill_beyond}
use Rattle.sound.proofs.Agree.{end_clear, agree_filled, agree_listed}
use Rattle.sound.proofs.fill.Goals as goal

pub word-requires : goal.word-requires
word-requires g c = let z = (walk_told c.requires.0 c.mark_blocks.ensures).is_on _ (c.in-Some-On.is ∙ ap Some c.in-Some-On.field-0-is) in link_inside z.0

pub count_lists-requires : goal.count_lists-requires
count_lists-requires g c =
    let z = (walk_told c.requires.0 c.mark_blocks.ensures).is_on _ (c.in-Some-On.is ∙ ap Some c.in-Some-On.field-0-is) in
    let ended : WholeMarked g.W.Width.BYTES c.args.h.now (end_of (length c.args.h.now)) [] c.mark_blocks.new.m = stood_end z.0 z.1 (sym c.word.ensures ∙ c.if-word-eq0.true) in
    (record { sizes = z.0.room.sizes; map = record { some = omega (arith, c.requires.1.some, c.mark_blocks.auto); few = omega (arith, c.requires.1.few, c.mark_blocks.auto) }; clear = record { from = λ j h. z.0.marking.clear.from j (omega (arith, h, z.0.room.stops)) }; none = end_clear z.0.room.sizes.width _ _ _ ended }, z.0.marking.marked)

pub returns-in-Some-Beyond : goal.returns-in-Some-Beyond
returns-in-Some-Beyond g c = let z = (walk_told c.requires.0 c.mark_blocks.ensures).is_beyond _ (c.in-Some-Beyond.is ∙ ap Some c.in-Some-Beyond.field-0-is) in fill_beyond _ z.0 z.1

pub returns-then-word-eq0 : goal.returns-then-word-eq0
returns-then-word-eq0 g c =
    let z = (walk_told c.requires.0 c.mark_blocks.ensures).is_on _ (c.in-Some-On.is ∙ ap Some c.in-Some-On.field-0-is) in
    let ended : WholeMarked g.W.Width.BYTES c.args.h.now (end_of (length c.args.h.now)) [] c.mark_blocks.new.m = stood_end z.0 z.1 (sym c.word.ensures ∙ c.if-word-eq0.true) in
    fill_told (tells_so (agree_filled z.0.room.sizes.width _ _ _ ended) (agree_listed z.0.room.sizes.width _ _ _ ended) c.count_lists.ensures)

pub returns-else-word-eq0 : goal.returns-else-word-eq0
returns-else-word-eq0 g c =
    let z = (walk_told c.requires.0 c.mark_blocks.ensures).is_on _ (c.in-Some-On.is ∙ ap Some c.in-Some-On.field-0-is) in
    fill_told (rw (ne_eqb _ 0 c.if-word-eq0.false) (tells_no _ (λ f. stood_open z.0 z.1 (λ e. c.if-word-eq0.false (c.word.ensures ∙ e)) f.onward)))

use Rattle.std.proofs.Common.{◌+◌, ◌-◌, ◌≤◌, arith, length}
use Rattle.words.specs.Word.{word_at}
use Rattle.model.specs.Shape.{shape, least_free}
use Rattle.model.specs.Parts.{previous_at}
use Rattle.model.proofs.Sizes.{most_bound}
use Rattle.growing.specs.Growing.{FreeBefore}
use Rattle.growing.proofs.EdgeLaws.{before_end, before_edge}
use Rattle.growing.proofs.free_before.Goals as goal

pub returns-then-from-end : goal.returns-then-from-end
returns-then-from-end g c = before_end c.requires.whole.width _ c.requires.whole _ _ c.requires.edge_at c.if-from-end.true c.last_free.ensures

pub overflow_sub-end : goal.overflow_sub-end
overflow_sub-end g c =
    let edged : (c.args.from.0 + least_free (shape g.W.Width.BYTES) ≤ length c.args.h.now) × FreeBefore g.W.Width.BYTES c.args.h.now (word_at g.W.Width.BYTES c.args.h.now (previous_at (shape g.W.Width.BYTES) c.args.from.0 (length c.args.h.now - c.args.from.0))) = before_edge c.requires.whole.width _ c.requires.whole _ c.requires.edge_at c.if-from-end.false in
    omega (arith, edged.0)

pub previous_at-requires : goal.previous_at-requires
previous_at-requires g c =
    let edged : (c.args.from.0 + least_free (shape g.W.Width.BYTES) ≤ length c.args.h.now) × FreeBefore g.W.Width.BYTES c.args.h.now (word_at g.W.Width.BYTES c.args.h.now (previous_at (shape g.W.Width.BYTES) c.args.from.0 (length c.args.h.now - c.args.from.0))) = before_edge c.requires.whole.width _ c.requires.whole _ c.requires.edge_at c.if-from-end.false in
    let wd = c.requires.whole.width in
    (omega (arith, edged.0, wd.least), omega (arith, edged.0, c.requires.whole.short, most_bound wd, wd.most))

pub word-requires : goal.word-requires
word-requires g c =
    let edged : (c.args.from.0 + least_free (shape g.W.Width.BYTES) ≤ length c.args.h.now) × FreeBefore g.W.Width.BYTES c.args.h.now (word_at g.W.Width.BYTES c.args.h.now (previous_at (shape g.W.Width.BYTES) c.args.from.0 (length c.args.h.now - c.args.from.0))) = before_edge c.requires.whole.width _ c.requires.whole _ c.requires.edge_at c.if-from-end.false in
    let wd = c.requires.whole.width in
    omega (arith, edged.0, c.previous_at.ensures, wd.least)

pub returns : goal.returns
returns g c =
    let edged : (c.args.from.0 + least_free (shape g.W.Width.BYTES) ≤ length c.args.h.now) × FreeBefore g.W.Width.BYTES c.args.h.now (word_at g.W.Width.BYTES c.args.h.now (previous_at (shape g.W.Width.BYTES) c.args.from.0 (length c.args.h.now - c.args.from.0))) = before_edge c.requires.whole.width _ c.requires.whole _ c.requires.edge_at c.if-from-end.false in
    rw (c.word.ensures, c.previous_at.ensures) edged.1

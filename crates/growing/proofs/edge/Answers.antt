use Rattle.std.proofs.Common.{◌-◌, ◌≤◌, sym, ◌∙◌, arith, length}
use Rattle.model.specs.Shape.{shape}
use Rattle.model.proofs.blocks.FreeWalk.{here_room}
use Rattle.growing.specs.Growing.{EdgeAt}
use Rattle.growing.proofs.EdgeLaws.{edge_free, edge_used}
use Rattle.growing.proofs.edge.Goals as goal

pub tag_before-t-requires : goal.tag_before-t-requires
tag_before-t-requires g c = let x = c.requires in
    (omega (arith, here_room (shape g.W.Width.BYTES) c.args.h.now x.sound.layout x.sound.here), omega arith)

pub overflow_sub-result : goal.overflow_sub-result
overflow_sub-result g c =
    let told : (c.tag_before-t.result ≤ length c.args.h.now) × EdgeAt g.W.Width.BYTES c.args.h.now (length c.args.h.now - c.tag_before-t.result) = let x = c.requires in edge_free x.width _ x _ c.tag_before-t.ensures (sym c.kind_in.ensures ∙ c.if-kind_in-eq-FREE.true) in
    omega (arith, told.0)

pub returns-then-kind_in-eq-FREE : goal.returns-then-kind_in-eq-FREE
returns-then-kind_in-eq-FREE g c =
    let told : (c.tag_before-t.result ≤ length c.args.h.now) × EdgeAt g.W.Width.BYTES c.args.h.now (length c.args.h.now - c.tag_before-t.result) = let x = c.requires in edge_free x.width _ x _ c.tag_before-t.ensures (sym c.kind_in.ensures ∙ c.if-kind_in-eq-FREE.true) in
    told.1

pub returns : goal.returns
returns g c = edge_used c.requires.width _ c.requires _ c.tag_before-t.ensures (λ k. c.if-kind_in-eq-FREE.false (c.kind_in.ensures ∙ k))

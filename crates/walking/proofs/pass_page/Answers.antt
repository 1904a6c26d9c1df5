use Rattle.std.proofs.Common.{◌≡◌, ◌*◌, ◌^◌, ◌<◌, sym, ◌∙◌, arith}
use Rattle.walking.proofs.Walks.{walk_wrong, walk_on, size_near, size_beyond, passed_tag, stood_no, stood_out, stood_wrong, stood_used}
use Rattle.marking.proofs.PageLaws.{use_big}
use Rattle.model.specs.Parts.{kind_in, size_in, page_kind}
use Rattle.walking.proofs.pass_page.Goals as goal

pub returns-then-from-k : goal.returns-then-from-k
returns-then-from-k g c = walk_wrong (stood_out c.requires.0.stood c.requires.2 _ c.word-t.ensures (c.requires.0.paused c.requires.2) (size_beyond c.eights-k.ensures c.if-from-k.true))

pub returns-then-tag_before-t : goal.returns-then-tag_before-t
returns-then-tag_before-t g c =
    let low : c.args.from.left < 2 ^ 61 = omega (arith, c.requires.0.stood.room.stops, c.requires.0.stood.room.sizes.inside) in
    let page : (kind_in c.word-t.result ≡ page_kind) × (8 * c.eights-k.result ≡ size_in c.word-t.result) = size_near c.eights-k.ensures c.if-from-k.false low in
    walk_wrong (stood_no c.requires.0.stood c.requires.2 _ c.word-t.ensures (λ y. c.if-tag_before-t.true (c.tag_before.ensures ∙ passed_tag y _ page.1)))

pub returns-in_err-marks : goal.returns-in_err-marks
returns-in_err-marks g c =
    let low : c.args.from.left < 2 ^ 61 = omega (arith, c.requires.0.stood.room.stops, c.requires.0.stood.room.sizes.inside) in
    let page : (kind_in c.word-t.result ≡ page_kind) × (8 * c.eights-k.result ≡ size_in c.word-t.result) = size_near c.eights-k.ensures c.if-from-k.false low in
    rw c.from_residual.ensures (walk_wrong (stood_wrong c.requires.0.stood c.requires.2 _ c.word-t.ensures _ page_kind page.1 page.0 (λ e. omega (arith, e)) (c.mark_page.ensures.is_no c.in_err-marks.was)))

pub returns : goal.returns
returns g c =
    let low : c.args.from.left < 2 ^ 61 = omega (arith, c.requires.0.stood.room.stops, c.requires.0.stood.room.sizes.inside) in
    let page : (kind_in c.word-t.result ≡ page_kind) × (8 * c.eights-k.result ≡ size_in c.word-t.result) = size_near c.eights-k.ensures c.if-from-k.false low in
    let z = c.mark_page.ensures.is_yes _ c.in_ok-marks.was in
    walk_on _ (stood_used c.requires.0.stood c.requires.2 _ c.word-t.ensures _ page.1 c.if-from-k.false (sym c.tag_before.ensures ∙ c.if-tag_before-t.false) page_kind page.0 (λ e. omega (arith, e)) _ _ z.0 z.1) (omega (arith, c.if-from-k.false, use_big c.requires.0.stood.room.sizes.width z.0.use_at_lem, c.requires.0.stood.room.sizes.width))

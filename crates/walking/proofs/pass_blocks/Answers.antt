use Rattle.std.proofs.Common.{◌≡◌, ℕ, ◌*◌, ◌^◌, ◌<◌, ap, ◌∙◌, arith}
use Rattle.words.specs.Word.{word_at}
use Rattle.model.specs.Shape.{shape}
use Rattle.model.specs.Parts.{kind_in, size_in, free_kind, variable_kind}
use Rattle.model.specs.inner.Links.{link_of}
use Rattle.marking.proofs.PageLaws.{variable_out}
use Rattle.marking.proofs.MapLaws.{marking_on}
use Rattle.telling.proofs.Tellings.{clash}
use Rattle.walking.proofs.Walks.{pass_wrong, size_near, passed_tag, passed_variable, passed_free, room_used, room_free, stood_no, stood_used, stood_free}
use Rattle.walking.proofs.pass_blocks.Goals as goal

pub returns-then-not-is_variable : goal.returns-then-not-is_variable
returns-then-not-is_variable g c =
    let low : c.loop-at.at.left < 2 ^ 61 = omega (arith, c.loop-at.invariant.room.stops, c.loop-at.invariant.room.sizes.inside) in
    let var : (kind_in c.word-t.result ≡ variable_kind) × (8 * c.eights-k.result ≡ size_in c.word-t.result) = size_near c.eights-k.ensures c.if-k-at.true low in
    λ m v. pass_wrong (stood_no (c.loop-at.invariant.onto m v) (omega (arith, c.loop-at-test.true)) _ c.word-t.ensures (λ y. clash _ c.if-not-is_variable.true (c.is_variable.ensures.is_yes (passed_variable y _ var.1 var.0, passed_tag y _ var.1))))

pub loop-at-preserved-then-k-at : goal.loop-at-preserved-then-k-at
loop-at-preserved-then-k-at g c =
    let low : c.loop-at.at.left < 2 ^ 61 = omega (arith, c.loop-at.invariant.room.stops, c.loop-at.invariant.room.sizes.inside) in
    let var : (kind_in c.word-t.result ≡ variable_kind) × (8 * c.eights-k.result ≡ size_in c.word-t.result) = size_near c.eights-k.ensures c.if-k-at.true low in
    let z = c.is_variable.ensures.yes_is c.if-not-is_variable.false in
    record { room = room_used c.loop-at.invariant.room _ c.if-k-at.true; less = omega (arith, c.loop-at.invariant.less); onto = λ m v. let u = c.loop-at.invariant.onto m v in stood_used u (omega (arith, c.loop-at-test.true)) _ c.word-t.ensures _ var.1 c.if-k-at.true z.1 variable_kind var.0 (λ e. omega (arith, e)) m _ (variable_out c.requires.sizes.width _ _ _ _ (omega (arith, var.1)) z.0) (marking_on (omega arith) u.marking) }

pub returns-then-not-is_free : goal.returns-then-not-is_free
returns-then-not-is_free g c =
    let low : c.loop-at.at.left < 2 ^ 61 = omega (arith, c.loop-at.invariant.room.stops, c.loop-at.invariant.room.sizes.inside) in
    let named : word_at g.W.Width.BYTES c.args.h.now c.loop-at.at.link.0 ≡ word_at g.W.Width.BYTES c.args.h.now (link_of (shape g.W.Width.BYTES) c.loop-at.at.prev.0) = ap (λ (x : ℕ). word_at g.W.Width.BYTES c.args.h.now x) c.loop-at.invariant.room.linked in
    let free : (kind_in c.word-t.result ≡ free_kind) × (8 * c.eights-k-else-k-at.result ≡ size_in c.word-t.result) = size_near c.eights-k-else-k-at.ensures c.if-at-k.false low in
    λ m v. pass_wrong (stood_no (c.loop-at.invariant.onto m v) (omega (arith, c.loop-at-test.true)) _ c.word-t.ensures (λ y. let z = passed_free y _ free.1 free.0 in clash _ c.if-not-is_free.true (c.is_free.ensures.is_yes (z.0, passed_tag y _ free.1, named ∙ z.1, z.2, z.3))))

pub loop-at-preserved : goal.loop-at-preserved
loop-at-preserved g c =
    let low : c.loop-at.at.left < 2 ^ 61 = omega (arith, c.loop-at.invariant.room.stops, c.loop-at.invariant.room.sizes.inside) in
    let free : (kind_in c.word-t.result ≡ free_kind) × (8 * c.eights-k-else-k-at.result ≡ size_in c.word-t.result) = size_near c.eights-k-else-k-at.ensures c.if-at-k.false low in
    let z = c.is_free.ensures.yes_is c.if-not-is_free.false in
    record { room = rw (← c.next_at.ensures) at (room_free c.loop-at.invariant.room _ c.if-at-k.false z.0); less = omega (arith, c.loop-at.invariant.less); onto = λ m v. rw (← c.next_at.ensures) at (stood_free (c.loop-at.invariant.onto m v) (omega (arith, c.loop-at-test.true)) _ c.word-t.ensures _ free.1 c.if-at-k.false z.1 free.0 z.0 z.2 z.3 z.4) }

use Rattle.std.proofs.Common.{ℕ, ◌+◌, refl, sym, ap, ◌∙◌, arith}
use Rattle.recovering.proofs.RecoverLaws.{midway_length, midway_start, midway_done, midway_page, past_free, past_used, page_used, behind, past_page, turn_below, turn_inside}
use Rattle.recovering.proofs.recover.Goals as goal

pub loop-p-init : goal.loop-p-init
loop-p-init g c = ((λ L h. midway_start _ _ _ _ c.start-p.ensures), c.end_of-end.ensures)

pub word-t-requires : goal.word-t-requires
word-t-requires g c = (turn_inside g.met.W.Width.width c.requires.0.here c.requires.1 (c.loop-p.invariant.0 c.requires.0.layout c.requires.0.here) c.loop-p.invariant.1 c.loop-p-test.true _ refl).2

pub overflow_add-p : goal.overflow_add-p
overflow_add-p g c = omega (arith, turn_inside g.met.W.Width.width c.requires.0.here c.requires.1 (c.loop-p.invariant.0 c.requires.0.layout c.requires.0.here) c.loop-p.invariant.1 c.loop-p-test.true _ c.word-t.ensures, c.size_in-size.ensures)

pub loop-p-smaller-then-kind_in-eq-FREE : goal.loop-p-smaller-then-kind_in-eq-FREE
loop-p-smaller-then-kind_in-eq-FREE g c = omega (arith, turn_inside g.met.W.Width.width c.requires.0.here c.requires.1 (c.loop-p.invariant.0 c.requires.0.layout c.requires.0.here) c.loop-p.invariant.1 c.loop-p-test.true _ c.word-t.ensures, c.size_in-size.ensures)

pub loop-p-preserved-then-kind_in-eq-FREE : goal.loop-p-preserved-then-kind_in-eq-FREE
loop-p-preserved-then-kind_in-eq-FREE g c = ((λ L h. rw c.size_in-size.ensures (past_free g.met.W.Width.width h c.requires.1 (c.loop-p.invariant.0 L h) _ c.word-t.ensures (turn_below g.met.W.Width.width h c.requires.1 (c.loop-p.invariant.0 L h) c.loop-p.invariant.1 c.loop-p-test.true) (sym c.kind_in.ensures ∙ c.if-kind_in-eq-FREE.true))), c.loop-p.invariant.1)

pub empty_page-empty-requires : goal.empty_page-empty-requires
empty_page-empty-requires g c = midway_page g.met.W.Width.width c.requires.0.here c.requires.1 (c.loop-p.invariant.0 c.requires.0.layout c.requires.0.here) _ c.word-t.ensures (turn_below g.met.W.Width.width c.requires.0.here c.requires.1 (c.loop-p.invariant.0 c.requires.0.layout c.requires.0.here) c.loop-p.invariant.1 c.loop-p-test.true)

pub loop-p-preserved : goal.loop-p-preserved
loop-p-preserved g c =
    ((λ L h. rw c.size_in-size.ensures (past_used g.met.W.Width.width h c.requires.1 (c.loop-p.invariant.0 L h) _ c.word-t.ensures (turn_below g.met.W.Width.width h c.requires.1 (c.loop-p.invariant.0 L h) c.loop-p.invariant.1 c.loop-p-test.true) (λ z. c.if-kind_in-eq-FREE.false (c.kind_in.ensures ∙ z)) _ c.empty_page-empty.ensures c.if-empty.false _ (rw c.if-empty.false refl))), c.loop-p.invariant.1)

pub release-requires : goal.release-requires
release-requires g c = page_used g.met.W.Width.width c.requires.0.here c.requires.1 (c.loop-p.invariant.0 c.requires.0.layout c.requires.0.here) _ c.word-t.ensures (turn_below g.met.W.Width.width c.requires.0.here c.requires.1 (c.loop-p.invariant.0 c.requires.0.layout c.requires.0.here) c.loop-p.invariant.1 c.loop-p-test.true) _ c.empty_page-empty.ensures c.if-empty.true _ refl c.size_in-size.ensures refl refl

pub word-requires : goal.word-requires
word-requires g c = (behind g.met.W.Width.width c.requires.0.here c.requires.1 (c.loop-p.invariant.0 c.requires.0.layout c.requires.0.here) _ c.word-t.ensures (turn_below g.met.W.Width.width c.requires.0.here c.requires.1 (c.loop-p.invariant.0 c.requires.0.layout c.requires.0.here) c.loop-p.invariant.1 c.loop-p-test.true) _ c.empty_page-empty.ensures c.if-empty.true _ refl c.size_in-size.ensures refl refl _ c.release.ensures _ c.joined_at-prev.ensures).room

pub overflow_add-p-then-empty : goal.overflow_add-p-then-empty
overflow_add-p-then-empty g c = omega (arith, behind g.met.W.Width.width c.requires.0.here c.requires.1 (c.loop-p.invariant.0 c.requires.0.layout c.requires.0.here) _ c.word-t.ensures (turn_below g.met.W.Width.width c.requires.0.here c.requires.1 (c.loop-p.invariant.0 c.requires.0.layout c.requires.0.here) c.loop-p.invariant.1 c.loop-p-test.true) _ c.empty_page-empty.ensures c.if-empty.true _ refl c.size_in-size.ensures refl refl _ c.release.ensures _ c.joined_at-prev.ensures, c.word.ensures)

pub loop-p-smaller-then-empty : goal.loop-p-smaller-then-empty
loop-p-smaller-then-empty g c = omega (arith, behind g.met.W.Width.width c.requires.0.here c.requires.1 (c.loop-p.invariant.0 c.requires.0.layout c.requires.0.here) _ c.word-t.ensures (turn_below g.met.W.Width.width c.requires.0.here c.requires.1 (c.loop-p.invariant.0 c.requires.0.layout c.requires.0.here) c.loop-p.invariant.1 c.loop-p-test.true) _ c.empty_page-empty.ensures c.if-empty.true _ refl c.size_in-size.ensures refl refl _ c.release.ensures _ c.joined_at-prev.ensures, c.word.ensures)

pub loop-p-preserved-then-empty : goal.loop-p-preserved-then-empty
loop-p-preserved-then-empty g c =
    ((λ L h. past_page g.met.W.Width.width h c.requires.1 (c.loop-p.invariant.0 L h) _ c.word-t.ensures (turn_below g.met.W.Width.width h c.requires.1 (c.loop-p.invariant.0 L h) c.loop-p.invariant.1 c.loop-p-test.true) _ c.empty_page-empty.ensures c.if-empty.true _ refl c.size_in-size.ensures refl refl _ c.release.ensures _ _ _ c.joined_at-prev.ensures (ap (λ (y : ℕ). c.joined_at-prev.result.0 + y) c.word.ensures) (rw c.if-empty.true refl)), c.loop-p.invariant.1)

pub overflow_add-p-else-empty : goal.overflow_add-p-else-empty
overflow_add-p-else-empty g c = omega (arith, turn_inside g.met.W.Width.width c.requires.0.here c.requires.1 (c.loop-p.invariant.0 c.requires.0.layout c.requires.0.here) c.loop-p.invariant.1 c.loop-p-test.true _ c.word-t.ensures, c.size_in-size.ensures)

pub loop-p-smaller : goal.loop-p-smaller
loop-p-smaller g c = omega (arith, turn_inside g.met.W.Width.width c.requires.0.here c.requires.1 (c.loop-p.invariant.0 c.requires.0.layout c.requires.0.here) c.loop-p.invariant.1 c.loop-p-test.true _ c.word-t.ensures, c.size_in-size.ensures)

pub returns : goal.returns
returns g c = λ L h. midway_done g.met.W.Width.width h c.requires.1 (c.loop-p.invariant.0 L h) (omega (arith, c.loop-p-test.false, c.loop-p.invariant.1, midway_length (c.loop-p.invariant.0 L h)))

use Rattle.std.proofs.Common.{ℕ, ◌≡◌, subst, arith}
use Rattle.relinking.specs.Relink.{EmptyBelow}
use Rattle.relinking.proofs.LinkLaws.{laid_long, empty_start, empty_more}
use Rattle.relinking.proofs.first_listed.Goals as goal

pub loop-c-init : goal.loop-c-init
loop-c-init g c = empty_start

pub word-requires : goal.word-requires
word-requires g c = omega (arith, laid_long c.requires.linkable.laid, c.head_at.ensures.1, c.requires.width)

pub returns-then-word-ne0 : goal.returns-then-word-ne0
returns-then-word-ne0 g c = c.loop-c.invariant

pub loop-c-preserved : goal.loop-c-preserved
loop-c-preserved g c = empty_more c.loop-c.invariant (omega (arith, c.loop-c-test.true, c.classes-c-end.ensures)) _ _ c.head_at.ensures.0 c.word.ensures c.if-word-ne0.false

pub returns : goal.returns
returns g c =
    let e : c.loop-c.c ≡ c.classes.result = omega (arith, c.loop-c.invariant.few, c.loop-c-test.false, c.classes-c-end.ensures, c.classes.ensures) in
    subst (λ (x : ℕ). EmptyBelow g.W.Width.BYTES c.args.h.now x) e c.loop-c.invariant

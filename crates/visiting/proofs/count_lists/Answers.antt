use Rattle.std.proofs.Common.{◌≤◌, refl, arith}
use Rattle.model.specs.Shape.{shape}
use Rattle.visiting.proofs.Counting.{lists_start, lists_fail, lists_turn, lists_skip, lists_yes, lists_none, listed_passed, passed_listed}
use Rattle.telling.proofs.Tellings.{tells_no, tells_eq}
use Rattle.visiting.proofs.count_lists.Goals as goal

pub loop-c-init : goal.loop-c-init
loop-c-init g c = lists_start c.requires.0.sizes.width c.requires.1

pub loop-c-preserved-then-are_empty : goal.loop-c-preserved-then-are_empty
loop-c-preserved-then-are_empty g c = lists_skip (c.are_empty.ensures c.if-are_empty.true) c.loop-c.invariant

pub returns-in_default : goal.returns-in_default
returns-in_default g c = tells_no _ (λ v. lists_fail c.loop-c.invariant (omega (arith, c.classes.ensures, c.loop-c-test.true)) _ refl _ c.count_list.ensures c.in_default.is (listed_passed c.requires.0.sizes.width c.requires.1 v))

pub loop-c-preserved : goal.loop-c-preserved
loop-c-preserved g c = lists_turn c.loop-c.invariant (omega (arith, c.classes.ensures, c.loop-c-test.true)) _ refl _ _ c.count_list.ensures c.in-Some.is

pub returns : goal.returns
returns g c =
    let none : (shape g.W.Width.BYTES).classes ≤ c.loop-c.c = omega (arith, c.classes.ensures, c.loop-c-test.false) in
    tells_eq _ _ _ (λ e. passed_listed c.requires.0.sizes.width c.requires.1 (lists_yes c.loop-c.invariant none e)) (λ v. lists_none c.loop-c.invariant none (listed_passed c.requires.0.sizes.width c.requires.1 v))

use Rattle.std.proofs.Common.{arith, rules}
use Rattle.engine.proofs.Allocating.{head_is, finds_page, ready_long, spotted, has_item, item_given, no_item, page_none, made_item, page_given}
use Rattle.engine.proofs.allocate.an_item.Goals as goal

pub word-requires : goal.word-requires
word-requires g c = omega (arith, c.head_at.ensures.1, ready_long c.requires.ready)

pub take-requires : goal.take-requires
take-requires g c = has_item c.requires.ready c.requires.class c.requires.own (λ z. omega (arith, z, head_is _ _ _ c.head_at.ensures.0 c.word.ensures, c.if-word-ne0.true))

pub returns-then-word-ne0 : goal.returns-then-word-ne0
returns-then-word-ne0 g c = item_given c.requires.ready c.requires.class c.requires.own _ _ (λ z. omega (arith, z, head_is _ _ _ c.head_at.ensures.0 c.word.ensures, c.if-word-ne0.true)) c.take.ensures

pub returns-in_err-p : goal.returns-in_err-p
returns-in_err-p g c = rw c.from_residual.ensures (page_none c.requires.ready c.requires.class (omega (arith, head_is _ _ _ c.head_at.ensures.0 c.word.ensures, c.if-word-ne0.false)) (finds_page c.args.c c.page_need.ensures c.in_err-p.ensures))

pub make-requires : goal.make-requires
make-requires g c =
    record {
      spotted = spotted c.requires.ready (finds_page c.args.c c.page_need.ensures c.in_ok-p.ensures);
      no_item = no_item c.requires.ready c.requires.class (omega (arith, head_is _ _ _ c.head_at.ensures.0 c.word.ensures, c.if-word-ne0.false));
      n_value = c.items_in_page-count.ensures;
    }

pub take-requires-2 : goal.take-requires-2
take-requires-2 g c = made_item c.requires.ready c.requires.class (omega (arith, head_is _ _ _ c.head_at.ensures.0 c.word.ensures, c.if-word-ne0.false)) _ _ c.make.ensures c.requires.own (spotted c.requires.ready (finds_page c.args.c c.page_need.ensures c.in_ok-p.ensures))

pub returns : goal.returns
returns g c =
    page_given c.requires.ready c.requires.class (omega (arith, head_is _ _ _ c.head_at.ensures.0 c.word.ensures, c.if-word-ne0.false)) _ _ c.make.ensures c.requires.own (finds_page c.args.c c.page_need.ensures c.in_ok-p.ensures) _ _ c.take-2.ensures (λ i. search rules)

use Rattle.std.proofs.Common.{sym, ◌∙◌, arith}
use Rattle.resizing.proofs.ResizeLaws.{item_there, same_class, other_class}
use Rattle.resizing.proofs.resize.stay_item.Goals as goal

pub returns-then-class_of-c : goal.returns-then-class_of-c
returns-then-class_of-c g c = other_class c.requires.by_index.1 _ c.class_of.ensures (λ e. omega (arith, e, c.if-class_of-c.true))

pub renew-requires : goal.renew-requires
renew-requires g c = record { item_live = item_there c.requires.by_index.1; n_value = sym c.class_of.ensures ∙ c.if-class_of-c.false }

pub returns : goal.returns
returns g c = same_class c.requires.by_index.1 (sym c.class_of.ensures ∙ c.if-class_of-c.false) _ c.renew.ensures

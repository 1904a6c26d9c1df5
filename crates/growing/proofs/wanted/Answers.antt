use Rattle.std.proofs.Common.{ℕ, sym, ap, ◌∙◌, arith}
use Rattle.model.specs.Shape.{shape, page_need}
use Rattle.model.proofs.Sizes.{most_bound}
use Rattle.growing.proofs.GrowLaws.{by_page, by_block}
use Rattle.growing.proofs.wanted.Goals as goal

pub returns-then-n-largest_item : goal.returns-then-n-largest_item
returns-then-n-largest_item g c = c.page_need.ensures ∙ ap (λ (x : ℕ). page_need (shape g.W.Width.BYTES) x) c.class_of-c.ensures ∙ sym (by_page _ _ (omega (arith, c.if-n-largest_item.true, c.largest_item.ensures)))

pub need_of-requires : goal.need_of-requires
need_of-requires g c = omega (arith, c.requires.most, most_bound g.met.W.Width.width, g.met.W.Width.width.most)

pub returns : goal.returns
returns g c = c.need_of.ensures ∙ sym (by_block _ _ (omega (arith, c.if-n-largest_item.false, c.largest_item.ensures)))

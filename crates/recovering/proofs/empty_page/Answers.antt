use Rattle.std.proofs.Common.{sym, ◌∙◌}
use Rattle.recovering.proofs.RecoverLaws.{told_page}
use Rattle.recovering.proofs.empty_page.Goals as goal

pub page_at-requires : goal.page_at-requires
page_at-requires g c = c.requires (sym c.kind_in.ensures ∙ c.if-kind_in-ne-PAGE.false)

pub returns : goal.returns
returns g c = told_page _ _ _ _ (sym c.kind_in.ensures ∙ c.if-kind_in-ne-PAGE.false) _ c.page_at.ensures

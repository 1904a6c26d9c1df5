use Rattle.telling.proofs.WordsRead.{read_at}
use Rattle.std.proofs.Common.{sym, ◌∙◌}
use Rattle.telling.proofs.Tellings.{tells_no, tells_eq}
use Rattle.sound.proofs.is_fixed.Goals as goal

pub returns-then-word-magic : goal.returns-then-word-magic
returns-then-word-magic g c = tells_no _ (λ f. c.if-word-magic.true (c.word.ensures ∙ f.magic ∙ sym c.magic.ensures))

pub returns-then-word-start : goal.returns-then-word-start
returns-then-word-start g c = tells_no _ (λ f. c.if-word-start.true (read_at _ _ c.word-2.ensures c.data_at.ensures ∙ f.data_at_is ∙ sym c.start.ensures))

pub returns-then-word-index : goal.returns-then-word-index
returns-then-word-index g c = tells_no _ (λ f. c.if-word-index.true (read_at _ _ c.word-3.ensures c.index_at.ensures ∙ f.index_at_is ∙ sym c.index.ensures))

pub returns-then-word-end : goal.returns-then-word-end
returns-then-word-end g c = tells_no _ (λ f. c.if-word-end.true (read_at _ _ c.word-4.ensures c.end_at.ensures ∙ f.end_at_is))

pub returns-then-word-index_tag : goal.returns-then-word-index_tag
returns-then-word-index_tag g c = tells_no _ (λ f. c.if-word-index_tag.true (read_at _ _ c.word-5.ensures c.index_tag_at.ensures ∙ f.low_tag ∙ sym c.index_tag.ensures))

pub returns : goal.returns
returns g c = tells_eq _ _ _
    (λ e. record {
      magic = sym c.word.ensures ∙ c.if-word-magic.false ∙ c.magic.ensures;
      data_at_is = sym (read_at _ _ c.word-2.ensures c.data_at.ensures) ∙ c.if-word-start.false ∙ c.start.ensures;
      index_at_is = sym (read_at _ _ c.word-3.ensures c.index_at.ensures) ∙ c.if-word-index.false ∙ c.index.ensures;
      end_at_is = sym (read_at _ _ c.word-4.ensures c.end_at.ensures) ∙ c.if-word-end.false;
      low_tag = sym (read_at _ _ c.word-5.ensures c.index_tag_at.ensures) ∙ c.if-word-index_tag.false ∙ c.index_tag.ensures;
      high_tag = sym (read_at _ _ c.word-6.ensures c.index_far_tag_at.ensures) ∙ e ∙ c.index_tag-2.ensures;
    })
    (λ f. read_at _ _ c.word-6.ensures c.index_far_tag_at.ensures ∙ f.high_tag ∙ sym c.index_tag-2.ensures)

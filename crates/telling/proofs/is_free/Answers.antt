use Rattle.telling.proofs.WordsRead.{read_at}
use Rattle.telling.proofs.Tellings.{clash, tells_no, tells_eq}
use Rattle.words.specs.Word.{word_at}
use Rattle.model.specs.Shape.{shape}
use Rattle.model.specs.Parts.{kind_in, free_kind, far_tag_at}
use Rattle.telling.specs.Neighbours.{touches}
use Rattle.std.proofs.Common.{◌≡◌, ℕ, eqb, sym, ap, ◌∙◌, arith, eq-eqb, ne_eqb}
use Rattle.telling.proofs.is_free.Goals as goal

pub returns-then-s-least_free : goal.returns-then-s-least_free
returns-then-s-least_free g c = tells_no _ (λ y. omega (arith, c.if-s-least_free.true, c.least_free.ensures, y.0))

pub returns-then-word-t : goal.returns-then-word-t
returns-then-word-t g c =
    let far : c.word.result ≡ word_at g.W.Width.BYTES c.args.h.now (far_tag_at (shape g.W.Width.BYTES) c.args.p.0 c.args.s) = read_at _ _ c.word.ensures c.far_tag_at.ensures in
    tells_no _ (λ y. c.if-word-t.true (far ∙ y.1))

pub returns-then-word-p : goal.returns-then-word-p
returns-then-word-p g c = tells_no _ (λ y. c.if-word-p.true (c.word-2.ensures ∙ y.2))

pub returns-then-kind_in-eq-FREE : goal.returns-then-kind_in-eq-FREE
returns-then-kind_in-eq-FREE g c =
    let tag_is : touches g.W.Width.BYTES c.args.h.now c.args.p.0 ≡ eqb c.kind_in.result free_kind = ap (λ (x : ℕ). eqb x free_kind) (sym (c.kind_in.ensures ∙ ap (λ (x : ℕ). kind_in x) c.tag_before.ensures)) in
    tells_no _ (λ y. clash _ y.3 (tag_is ∙ eq-eqb _ _ c.if-kind_in-eq-FREE.true))

pub returns : goal.returns
returns g c =
    let far : c.word.result ≡ word_at g.W.Width.BYTES c.args.h.now (far_tag_at (shape g.W.Width.BYTES) c.args.p.0 c.args.s) = read_at _ _ c.word.ensures c.far_tag_at.ensures in
    let tag_is : touches g.W.Width.BYTES c.args.h.now c.args.p.0 ≡ eqb c.kind_in.result free_kind = ap (λ (x : ℕ). eqb x free_kind) (sym (c.kind_in.ensures ∙ ap (λ (x : ℕ). kind_in x) c.tag_before.ensures)) in
    tells_eq _ _ _ (λ e. (omega (arith, c.if-s-least_free.false, c.least_free.ensures), sym far ∙ c.if-word-t.false, sym c.word-2.ensures ∙ c.if-word-p.false, tag_is ∙ ne_eqb _ _ c.if-kind_in-eq-FREE.false, sym (read_at _ _ c.word-3.ensures c.previous_at.ensures) ∙ e)) (λ y. read_at _ _ c.word-3.ensures c.previous_at.ensures ∙ y.4)

use Rattle.std.proofs.Common.{ℕ, ap, ◌∙◌, List, length}
use Rattle.words.specs.Word.{put}
use Rattle.links.specs.Links.{linked_bytes}
use Rattle.growing.proofs.extend.Goals as goal

pub returns : goal.returns
returns g c = let b = c.args.h.now in
    c.put_linked.ensures
    ∙ ap (λ (d : List ℕ). linked_bytes g.W.Width.BYTES d c.args.from.0 (length b) c.args.before.0 0) (c.put_word.ensures ∙ ap (λ (p : ℕ). put g.W.Width.BYTES b p (length b)) c.end_at.ensures)

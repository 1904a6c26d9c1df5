use Rattle.std.proofs.Common.{refl, arith}
use Rattle.placing.proofs.read.Goals as goal

pub link_at-link-requires : goal.link_at-link-requires
link_at-link-requires g c = omega (arith, rw (c.previous_at.ensures, c.word-size.ensures) at c.word-2.ensures, c.requires.prev_low, c.well_formed.0.1)

pub back_at-back-requires : goal.back_at-back-requires
back_at-back-requires g c = rw (c.word.ensures, c.next_at.ensures) c.requires.behind

pub returns : goal.returns
returns g c = record { at = refl; size = c.word-size.ensures; next = rw c.next_at.ensures at c.word.ensures; prev = rw c.previous_at.ensures at c.word-2.ensures; link = c.link_at-link.ensures; back = c.back_at-back.ensures }

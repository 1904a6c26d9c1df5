use Rattle.std.proofs.Common.{arith, rules}
use Rattle.items.proofs.GiveLaws.{renew_numbers, renew_at}
use Rattle.items.proofs.renew.Goals as goal

pub held_header-header-requires : goal.held_header-header-requires
held_header-header-requires g c = omega (arith, c.requires.item_live.width, c.requires.n_value, renew_numbers c.requires.item_live)

pub put_word-requires : goal.put_word-requires
put_word-requires g c = omega (arith, c.requires.item_live.width, renew_numbers c.requires.item_live)

pub returns : goal.returns
returns g c = renew_at c.requires.item_live _ c.requires.n_value (λ i. search rules) _ (rw c.held_header-header.ensures at c.put_word.ensures)

use Rattle.std.proofs.Common.{rules}
use Rattle.growing.proofs.Running.{takes_ran}
use Rattle.growing.proofs.allocate.Goals as goal

pub returns : goal.returns
returns g c = rw c.ok.ensures.value (takes_ran _ c.requires.holding _ c.requires.asked _ (λ d e r z. search rules) c.run.ensures)

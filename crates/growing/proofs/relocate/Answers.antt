use Rattle.std.proofs.Common.{rules}
use Rattle.growing.proofs.Running.{moves_fills, moves_ran}
use Rattle.growing.proofs.relocate.Goals as goal

pub run-requires-clause-fills : goal.run-requires-clause-fills
run-requires-clause-fills g c = moves_fills _ c.requires.holding _ c.requires.asked _ c.args.a.0 (λ d e r z. search rules)

pub returns : goal.returns
returns g c = moves_ran _ c.requires.holding _ c.requires.asked _ c.args.a.0 (λ d e r z. search rules) c.run.ensures

-- Every demand of what the calls answer, proved once over the word size: so of the calls of `heap` at `Wide`, and at `Hand`.
use Rattle.std.proofs.Common.{ℕ}
use Rattle.words.specs.Width.{Width}
use Rattle.model.proofs.Sizes.{eight, four}
use Rattle.promises.specs.Answered.{CallsPromised}
use Rattle.promises.proofs.OneResult.{one_result}
use Rattle.promises.proofs.AnswersPromised.{answers_promised}
use Rattle.promises.proofs.SweepPromised.{sweep_promised}

pub calls_promised : {w : ℕ} → Width w → CallsPromised w
calls_promised {w} wd = record { one_result = one_result w; answers = answers_promised wd; sweeps = sweep_promised wd }

pub heap_calls_promised : CallsPromised 8
heap_calls_promised = calls_promised eight

pub hand_calls_promised : CallsPromised 4
hand_calls_promised = calls_promised four

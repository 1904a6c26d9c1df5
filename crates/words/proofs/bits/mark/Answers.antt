use Rattle.std.proofs.Common.{◌%◌, arith, refl, rules}
use Rattle.words.specs.Bits.{marked}
use Rattle.words.proofs.BitLaws.{one_shifted, mark_fits}
use Rattle.words.proofs.bits.mark.Goals as goal

pub overflow_add-m : goal.overflow_add-m
overflow_add-m c = rw (one_shifted (c.args.i % 64) (omega arith), c.word_of-w.ensures)
    (record { fits = mark_fits c.args.m.now c.args.i c.requires.1 (search rules) })

pub returns : goal.returns
unfolding marked
returns c = rw (one_shifted (c.args.i % 64) (omega arith), c.word_of-w.ensures) refl

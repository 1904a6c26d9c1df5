-- 4 and 8 are widths.
use Rattle.std.proofs.Common.{refl, arith}
use Rattle.words.specs.Width.{Width}

pub four : Width 4
four = record { least = omega arith; most = omega arith; fours = refl; square = refl }

pub eight : Width 8
eight = record { least = omega arith; most = omega arith; fours = refl; square = refl }

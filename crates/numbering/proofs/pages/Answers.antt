use Rattle.std.proofs.Common.{arith}
use Rattle.numbering.proofs.Telling.{number_most, pages_given, pages_refused}
use Rattle.numbering.proofs.pages.Goals as goal

pub returns-in-Ok : goal.returns-in-Ok
returns-in-Ok c = pages_given _ _ c.in-Ok.is

pub overflow_mul-result : goal.overflow_mul-result
overflow_mul-result c = omega (arith, c.from.ensures, number_most c.in-Err.k)

pub returns-in-Err : goal.returns-in-Err
returns-in-Err c = pages_refused _ _ _ c.in-Err.is c.from.ensures

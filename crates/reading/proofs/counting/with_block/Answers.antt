use Rattle.std.proofs.Common.{arith}
use Rattle.reading.proofs.CountLaws.{count_small, count_free, count_variable, count_page}
use Rattle.reading.proofs.IterLaws.{read_page_at}
use Rattle.reading.proofs.ReadingLaws.{page_small}
use Rattle.reading.proofs.counting.with_block.Goals as goal

pub overflow_add-r : goal.overflow_add-r
overflow_add-r g c = omega (arith, count_small c.requires.0, c.requires.1.inside)

pub overflow_add-r-in-Free : goal.overflow_add-r-in-Free
overflow_add-r-in-Free g c = omega (arith, count_small c.requires.0, c.requires.1.inside, c.requires.1.least, c.requires.0.width)

pub overflow_add-r-in-Variable : goal.overflow_add-r-in-Variable
overflow_add-r-in-Variable g c = omega (arith, count_small c.requires.0, c.requires.1.inside, c.requires.1.least, c.requires.0.width)

pub overflow_add-r-in-Page : goal.overflow_add-r-in-Page
overflow_add-r-in-Page g c = omega (arith, count_small c.requires.0, c.requires.1.inside, c.requires.1.least, c.requires.0.width)

pub page_at-requires : goal.page_at-requires
page_at-requires g c = read_page_at c.requires.1 _ c.in-Page.is

pub overflow_add-r-in-Page-2 : goal.overflow_add-r-in-Page-2
overflow_add-r-in-Page-2 g c = omega (arith, count_small c.requires.0, c.requires.1.inside, page_small (read_page_at c.requires.1 _ c.in-Page.is) _ c.page_at.ensures)

pub returns-in-Free : goal.returns-in-Free
returns-in-Free g c = count_free c.requires.0 c.requires.1 _ _ c.in-Free.is _ c.max.ensures

pub returns-in-Variable : goal.returns-in-Variable
returns-in-Variable g c = count_variable c.requires.0 c.requires.1 c.in-Variable.is

pub returns-in-Page : goal.returns-in-Page
returns-in-Page g c = count_page c.requires.0 c.requires.1 _ c.in-Page.is _ c.page_at.ensures

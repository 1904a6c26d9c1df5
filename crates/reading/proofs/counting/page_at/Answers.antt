use Rattle.std.proofs.Common.{arith}
use Rattle.reading.proofs.ReadingLaws.{page_room, page_numbers, page_told}
use Rattle.reading.proofs.counting.page_at.Goals as goal

pub word-requires : goal.word-requires
word-requires g c = omega (arith, page_room c.requires.at)

pub count_held-held-requires : goal.count_held-held-requires
count_held-held-requires g c = let n = page_numbers c.requires.at _ _ _ _ c.first_item_at-first.ensures c.word.ensures c.class_in-c.ensures.0 c.items_in_page-n.ensures in (n.0, c.items_in_page-n.ensures, n.1)

pub returns : goal.returns
returns g c = λ d k ss a. page_told a _ _ _ _ c.first_item_at-first.ensures c.word.ensures c.class_in-c.ensures.0 c.items_in_page-n.ensures _ c.count_held-held.ensures.0

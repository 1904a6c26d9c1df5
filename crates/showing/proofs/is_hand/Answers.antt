use Rattle.telling.proofs.Tellings.{tells_no}
use Rattle.showing.proofs.ShowingLaws.{short_closed}
use Rattle.showing.proofs.is_hand.Goals as goal

pub returns-then-h-lt-MAGIC_BYTES : goal.returns-then-h-lt-MAGIC_BYTES
returns-then-h-lt-MAGIC_BYTES c = tells_no _ (short_closed _ (λ i. (c.type_inv.h i).fits) c.if-h-lt-MAGIC_BYTES.true)

use Rattle.std.proofs.Common.{refl}
use Rattle.model.proofs.Sizes.{class_few}
use Rattle.model.proofs.class_in.Goals as goal

pub returns : goal.returns
returns g c = rw c.class_and_flags.ensures (refl, class_few g.met.W.Width.width c.args.x)

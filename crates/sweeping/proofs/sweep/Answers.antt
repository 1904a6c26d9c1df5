use Rattle.sweeping.proofs.SweepLaws.{link_ready, swept_so}
use Rattle.sweeping.proofs.sweep.Goals as goal

pub link_anew-requires : goal.link_anew-requires
link_anew-requires g c = link_ready c.recover-count.ensures g.met.W.Width.width c.requires.0 c.requires.1

-- Once the lists are linked anew, however many pages went,
-- what is left is what a sweep leaves.
pub returns : goal.returns
returns g c = swept_so c.recover-count.ensures _ c.link_anew.ensures

use Rattle.jagwibodu_hand.proofs.jagwibodu_hand_initialise.Goals as goal

pub returns : goal.returns
returns c = rw c.end_of.ensures at c.initialise.ensures

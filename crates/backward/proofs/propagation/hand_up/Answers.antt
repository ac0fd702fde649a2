-- What is handed up comes from below.
use Rattle.backward.proofs.Tested.{given_below}
use Rattle.backward.proofs.propagation.hand_up.Goals as goal

pub returns : goal.returns
returns c = given_below (rw (c.first_square.ensures, c.mark_square.ensures) at c.hand.ensures.grows)

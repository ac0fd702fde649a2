-- What lies above the row that is near is known, if that row is done; where no row is near, the line stays as it was.
use Rattle.marks.proofs.Passes.{pass_as, pass_none}
use Rattle.marks.proofs.Handing.{chain, near_one, near_none}
use Rattle.marks.proofs.inclusions.Handing.hand_near.Goals as goal

pub returns-in-Some : goal.returns-in-Some
returns-in-Some c = pass_as (near_one (chain _ _) c.if-c-self.true c.hand_one.ensures.covering) c.hand_one.ensures.pass

pub returns-in_default : goal.returns-in_default
returns-in_default c = pass_none near_none

pub returns-in_default-2 : goal.returns-in_default-2
returns-in_default-2 c = pass_none near_none

pub returns-in_default-3 : goal.returns-in_default-3
returns-in_default-3 c = pass_none near_none

-- Only hints change.
use Rattle.marks.proofs.Squares.{kept_same, kept_further, frame_area}
use Rattle.forward.proofs.hints.list_restrictions.Goals as goal

pub loop-name-init : goal.loop-name-init
loop-name-init c = kept_same

pub list_restriction-requires-clause-area : goal.list_restriction-requires-clause-area
list_restriction-requires-clause-area c = frame_area c.loop-name.invariant.extends.frame c.requires

pub loop-name-preserved : goal.loop-name-preserved
loop-name-preserved c = kept_further c.loop-name.invariant c.list_restriction.ensures

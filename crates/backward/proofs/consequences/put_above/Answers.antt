-- The loop's invariant: the marks grow by the rule.
use Rattle.marks.specs.Passes.{none}
use Rattle.marks.proofs.Passes.{grows_further}
use Rattle.backward.proofs.Tested.{handed_below}
use Rattle.backward.proofs.consequences.put_above.Goals as goal

pub loop-x-init : goal.loop-x-init
loop-x-init c = none

pub loop-x-preserved : goal.loop-x-preserved
loop-x-preserved c = grows_further c.loop-x.invariant
    (handed_below c.requires.lower_le_names (rw c.first_square-inclusions.ensures at c.in-Some.ensures.there) (rw c.mark_square-marks.ensures at c.hand_on.ensures))

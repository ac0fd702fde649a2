-- The loop's invariant: the pairs of the columns before the next one are looked at, or marked.
use Rattle.marks.proofs.Passes.{turns_none, turn_both}
use Rattle.backward.proofs.Tested.{row_to, row_end}
use Rattle.backward.proofs.sweep.look_at_columns.Goals as goal

pub loop-y-init : goal.loop-y-init
loop-y-init c = turns_none

pub loop-y-preserved : goal.loop-y-preserved
loop-y-preserved c = turn_both (row_to c.loop-y.invariant (rw c.mark_square-marks.ensures at c.in-Some.ensures)) c.look_at_pair-new.ensures

pub returns : goal.returns
returns c = row_end c.loop-y.invariant (rw c.mark_square-marks.ensures at c.in_default.ensures)

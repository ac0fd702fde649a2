-- The loop's invariant: the rows and columns of the names before the next one are looked at.
use native.Mathlib.Omega.{arith}
use Rattle.marks.proofs.Passes.{turns_none, turn_both}
use Rattle.backward.proofs.Tested.{looked, looked_end}
use Rattle.backward.proofs.sweep.look_at_names.Goals as goal

pub loop-x-init : goal.loop-x-init
loop-x-init c = turns_none

pub loop-x-preserved : goal.loop-x-preserved
loop-x-preserved c = turn_both c.loop-x.invariant (looked c.look_at_row-by_row.ensures c.look_at_name-by_name.ensures c.look_at_column-by_column.ensures)

pub returns : goal.returns
returns c = looked_end (omega arith) c.loop-x.invariant c.look_at_row-top.ensures

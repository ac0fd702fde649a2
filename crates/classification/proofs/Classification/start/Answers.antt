-- The marks are put by the rules.
use native.Mathlib.Omega.{arith}
use Rattle.marks.specs.Passes.{none}
use Rattle.marks.proofs.Passes.{grows_further}
use Rattle.classification.proofs.Marking.{setting_stays}
use Rattle.classification.proofs.Classification.start.Goals as goal

pub loop-x-init : goal.loop-x-init
loop-x-init c = none

pub start_row-requires : goal.start_row-requires
start_row-requires c = record { setting = setting_stays c.loop-x.invariant c.requires; x_le_names = omega arith }

pub loop-x-preserved : goal.loop-x-preserved
loop-x-preserved c = grows_further c.loop-x.invariant c.start_row.ensures

pub returns : goal.returns
returns c = c.loop-x.invariant

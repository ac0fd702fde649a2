-- The marks are put by the rules.
use native.Mathlib.Omega.{arith}
use Rattle.marks.specs.Passes.{none}
use Rattle.marks.proofs.Passes.{grows_further}
use Rattle.classification.proofs.Marking.{setting_stays, in_top_row, gather_grows}
use Rattle.classification.proofs.Classification.start_top.Goals.{then-gathers, else-gathers}
use Rattle.classification.proofs.Classification.start_top.Goals as goal

pub loop-y-init : goal.loop-y-init
loop-y-init c = none

pub gathers-requires : goal.gathers-requires
gathers-requires c = in_top_row (setting_stays c.loop-y.invariant c.requires) c.loop-y-test.true

pub mark-requires : goal.mark-requires
mark-requires c = record { room = (setting_stays c.loop-y.invariant c.requires).room; x_le_names = (omega arith, omega (arith, c.loop-y-test.true)) }

pub loop-y-preserved : goal.loop-y-preserved
loop-y-preserved c =
    let g = c.loop-y.invariant in
    elim c.if-gathers.branch [
      | then-gathers w ↦ rw w.work-is (grows_further g (gather_grows (in_top_row (setting_stays g c.requires) c.loop-y-test.true) (c.gathers.ensures.sound w.if-gathers.true) w.mark.ensures))
      | else-gathers w ↦ rw w.work-is g
    ]

pub returns : goal.returns
returns c = c.loop-y.invariant

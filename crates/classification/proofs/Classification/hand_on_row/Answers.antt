-- The marks are put by the rules.
use native.Mathlib.Omega.{arith}
use Rattle.marks.specs.Passes.{none}
use Rattle.marks.proofs.Passes.{grows_further}
use Rattle.classification.proofs.Marking.{setting_stays, row_grows}
use Rattle.classification.proofs.Classification.hand_on_row.Goals.{then-is_marked, else-is_marked}
use Rattle.classification.proofs.Classification.hand_on_row.Goals as goal

pub loop-x-init : goal.loop-x-init
loop-x-init c = none

pub is_marked-requires : goal.is_marked-requires
is_marked-requires c = record { room = (setting_stays c.loop-x.invariant c.requires.setting).room; x_le_names = (omega arith, c.requires.node_le_names) }

pub hand_on-requires : goal.hand_on-requires
hand_on-requires c = record { room = (setting_stays c.loop-x.invariant c.requires.setting).room; from_le_names = (c.requires.node_le_names, omega arith) }

pub loop-x-preserved : goal.loop-x-preserved
loop-x-preserved c = elim c.if-is_marked.branch [
  | then-is_marked w ↦ rw w.work-is (grows_further c.loop-x.invariant (row_grows (c.is_marked.ensures.sound w.if-is_marked.true) c.requires.node_le_names w.hand_on.ensures))
  | else-is_marked w ↦ rw w.work-is c.loop-x.invariant
]

pub returns : goal.returns
returns c = c.loop-x.invariant

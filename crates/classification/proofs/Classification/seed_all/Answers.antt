-- A pass that has finished the rows before x.
use native.Mathlib.Omega.{arith}
use Rattle.marks.proofs.Passes.{turns_none, turn_both, turns_end}
use Rattle.classification.proofs.Marking.{setting_stays}
use Rattle.classification.proofs.Classification.seed_all.Goals as goal

pub loop-x-init : goal.loop-x-init
loop-x-init c = turns_none

pub seed-seeded-requires : goal.seed-seeded-requires
seed-seeded-requires c = record { room = (setting_stays c.loop-x.invariant.grows c.requires).room; x_le_names = omega arith }

pub loop-x-preserved : goal.loop-x-preserved
loop-x-preserved c = turn_both c.loop-x.invariant (c.seed-seeded.ensures.pass _ _)

pub returns : goal.returns
returns c = turns_end (omega arith) c.loop-x.invariant

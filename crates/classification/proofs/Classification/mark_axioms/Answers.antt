-- A pass that has finished the axioms before x.
use Rattle.marks.proofs.Passes.{turns_none, turn_both, turns_end}
use Rattle.classification.proofs.Marking.{seeded_stays}
use Rattle.classification.proofs.Classification.mark_axioms.Goals as goal

pub loop-x-init : goal.loop-x-init
loop-x-init c = turns_none

pub mark_axiom-new-requires : goal.mark_axiom-new-requires
mark_axiom-new-requires c = record { seeded_setting = seeded_stays c.loop-x.invariant.grows c.requires; x_lt_names = c.loop-x-test.true }

pub loop-x-preserved : goal.loop-x-preserved
loop-x-preserved c = turn_both c.loop-x.invariant c.mark_axiom-new.ensures

pub returns : goal.returns
returns c = turns_end c.loop-x-test.false c.loop-x.invariant

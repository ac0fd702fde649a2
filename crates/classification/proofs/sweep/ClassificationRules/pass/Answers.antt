-- The parts of a pass, of which each leaves what the next one asks; the first that changed something ends it.
use mathlib.Core.Path.{refl}
use Rattle.marks.proofs.Passes.{grows_further, pass_changed, pass_found}
use Rattle.classification.proofs.Marking.{setting_stays}
use Rattle.classification.proofs.Settled.{pass_settled}
use Rattle.classification.proofs.sweep.ClassificationRules.pass.Goals as goal

pub returns-then-seed_all : goal.returns-then-seed_all
returns-then-seed_all c = pass_found c.seed_all.ensures c.if-seed_all.true

pub mark_axioms-requires : goal.mark_axioms-requires
mark_axioms-requires c = record { setting = setting_stays c.seed_all.ensures.grows c.requires; seeded = c.seed_all.ensures.done c.if-seed_all.false }

pub returns-then-mark_axioms : goal.returns-then-mark_axioms
returns-then-mark_axioms c = pass_changed c.seed_all.ensures c.mark_axioms.ensures c.if-mark_axioms.true

pub invariant_of-handing : goal.invariant_of-handing
invariant_of-handing c = record { alike = record { same = refl; few = c.requires.few } }

pub hand_all-requires : goal.hand_all-requires
hand_all-requires c = let h = setting_stays (grows_further c.seed_all.ensures.grows c.mark_axioms.ensures.grows) c.requires in (h.room, h.room)

pub returns : goal.returns
returns c = pass_settled c.seed_all.ensures c.if-seed_all.false c.mark_axioms.ensures c.if-mark_axioms.false c.hand_all.ensures

-- A row that has all of the other one needs nothing.
use Rattle.marks.specs.Passes.{none}
use Rattle.classification.proofs.Classification.hand_over.Goals as goal

pub returns-then-not-seems_within : goal.returns-then-not-seems_within
returns-then-not-seems_within c = c.hand_on.ensures

pub returns-else-not-seems_within : goal.returns-else-not-seems_within
returns-else-not-seems_within c = none

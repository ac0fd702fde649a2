-- The marks are put by the rules.
use Rattle.marks.specs.Orders.{Walking}
use Rattle.classification.specs.Steps.{Grown}
use Rattle.classification.proofs.Classification.hand_on_rows.Given as goal

abbrev pub invariant-loop-name : goal.invariant-loop-name
invariant-loop-name l = Walking l.self.square.names l.name-iterator × Grown l.self l.initial.work l.work

-- The marks are put by the rules.
use Rattle.classification.specs.Steps.{Grown}
use Rattle.classification.proofs.Classification.start.Given as goal

abbrev pub invariant-loop-x : goal.invariant-loop-x
invariant-loop-x l = Grown l.self l.initial.work l.work

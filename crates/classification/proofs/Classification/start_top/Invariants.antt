-- The marks are put by the rules.
use Rattle.classification.specs.Steps.{Grown}
use Rattle.classification.proofs.Classification.start_top.Given as goal

abbrev pub invariant-loop-y : goal.invariant-loop-y
invariant-loop-y l = Grown l.self l.initial.work l.work

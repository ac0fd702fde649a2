-- The marks are put by the rules.
use Rattle.marks.specs.Columns.{Walkable}
use Rattle.classification.specs.Steps.{Grown}
use Rattle.classification.proofs.Classification.put_above.Given as goal

abbrev pub invariant-loop-y : goal.invariant-loop-y
invariant-loop-y l = Walkable l.self.square.names l.y-iterator × Grown l.self l.initial.work l.work

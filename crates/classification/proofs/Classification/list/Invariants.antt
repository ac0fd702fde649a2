-- Only hints change.
use Rattle.marks.specs.Squares.{Kept}
use Rattle.classification.proofs.Classification.list.Given as goal

abbrev pub invariant-loop-x : goal.invariant-loop-x
invariant-loop-x l = Kept l.self.square l.initial.work l.work

-- Only hints change.
use Rattle.marks.specs.Columns.{Walkable}
use Rattle.marks.specs.Squares.{Kept}
use Rattle.classification.proofs.Classification.note_below.Given as goal

abbrev pub invariant-loop-y : goal.invariant-loop-y
invariant-loop-y l = Walkable l.self.square.names l.y-iterator × Kept l.self.square l.initial.work l.work

-- The rows before x are turned, if the other square had no marks.
use Rattle.marks.specs.Squares.{Unmarked, Hints}
use Rattle.marks.specs.Inclusions.{TurnedBelow}
use Rattle.marks.proofs.Square.turn.Given as goal

abbrev pub invariant-loop-x : goal.invariant-loop-x
invariant-loop-x l = (Unmarked l.turned l.initial.work → TurnedBelow l.self l.work l.turned l.work l.x) × Hints l.turned l.initial.work l.work

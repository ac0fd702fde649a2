-- If the rows before x are turned, so is row x up to the column where the search goes on.
use Prim.Native.Nat.{suc, ◌-◌}
use Rattle.marks.specs.Squares.{Hints}
use Rattle.marks.specs.Inclusions.{TurnedBelow}
use Rattle.marks.proofs.Turning.{TurnedTo}
use Rattle.marks.proofs.Square.turn_row.Given as goal

abbrev pub invariant-loop-y : goal.invariant-loop-y
invariant-loop-y l = (TurnedBelow l.self l.initial.work l.turned l.initial.work l.x → TurnedTo l.self l.work l.turned l.x l.next) × Hints l.turned l.initial.work l.work

abbrev pub decreases-loop-y : goal.decreases-loop-y
decreases-loop-y l = suc l.self.names - l.next

-- `Cells::put_all` meets its contract. Invariant: row i has the nodes before x.
use Prim.Native.Nat.{◌≤◌}
use Rattle.row_evaluation.specs.Cells.{Adds}
use Rattle.row_evaluation.proofs.Putting.{Before}
use Rattle.row_evaluation.proofs.cells.Cells.put_all.Given as goal

abbrev pub invariant-loop-x : goal.invariant-loop-x
invariant-loop-x l = Adds l.self.base l.self.names l.i (Before (λ x. x ≤ l.self.names) l.x) l.initial.work l.work

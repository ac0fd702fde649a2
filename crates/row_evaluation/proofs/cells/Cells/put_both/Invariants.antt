-- `Cells::put_both` meets its contract. Invariant: of the nodes before x, row i has those of both rows.
use Rattle.row_evaluation.specs.Cells.{Holds, Adds}
use Rattle.row_evaluation.proofs.Putting.{Before}
use Rattle.row_evaluation.proofs.cells.Cells.put_both.Given as goal

abbrev pub invariant-loop-x : goal.invariant-loop-x
invariant-loop-x l = Adds l.self.base l.self.names l.i
    (Before (λ x. Holds l.initial.work l.self.base l.self.names l.j x × Holds l.initial.work l.self.base l.self.names l.k x) l.x) l.initial.work l.work

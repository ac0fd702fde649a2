-- `Evaluation::put_below` meets its contract. Invariant: of the nodes before x, row i has those below b.
use Rattle.marks.specs.Squares.{Marked}
use Rattle.row_evaluation.specs.Cells.{Adds}
use Rattle.row_evaluation.proofs.Putting.{Before}
use Rattle.row_evaluation.proofs.Evaluation.put_below.Given as goal

abbrev pub invariant-loop-x : goal.invariant-loop-x
invariant-loop-x l = Adds l.self.base l.self.square.names l.i (Before (λ x. Marked l.self.square l.initial.work x l.b) l.x) l.initial.work l.work

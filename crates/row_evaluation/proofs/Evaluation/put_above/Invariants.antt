-- `Evaluation::put_above` meets its contract. Invariant: of the names before y, row i has those above it.
use Rattle.row_evaluation.specs.Cells.{Adds}
use Rattle.row_evaluation.specs.Above.{PlainAbove}
use Rattle.row_evaluation.proofs.Putting.{Before}
use Rattle.row_evaluation.proofs.Evaluation.put_above.Given as goal

abbrev pub invariant-loop-y : goal.invariant-loop-y
invariant-loop-y l = Adds l.self.base l.self.square.names l.i (Before (PlainAbove l.self l.initial.work l.form) l.y) l.initial.work l.work

-- `Evaluation::put_some` meets its contract. Invariant: row i has the nodes below the ∃ by a name before b.
use Rattle.row_evaluation.specs.Cells.{Adds}
use Rattle.row_evaluation.proofs.FillingBelow.{SomeBefore}
use Rattle.row_evaluation.proofs.Evaluation.put_some.Given as goal

abbrev pub invariant-loop-b : goal.invariant-loop-b
invariant-loop-b l = Adds l.self.base l.self.square.names l.i (SomeBefore l.self l.initial.work l.j l.role.0 l.b) l.initial.work l.work

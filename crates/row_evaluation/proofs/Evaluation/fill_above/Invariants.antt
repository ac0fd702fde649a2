-- `Evaluation::fill_above` meets its contract. Invariant: the rows before i hold the names above them, and the others are empty.
use Rattle.row_evaluation.specs.Above.{AboveFilled}
use Rattle.row_evaluation.proofs.Evaluation.fill_above.Given as goal

abbrev pub invariant-loop-i : goal.invariant-loop-i
invariant-loop-i l = AboveFilled l.self l.rows l.i l.initial.work l.work

-- `Evaluation::fill_below` meets its contract. Invariant: the rows before i hold the nodes below them, and the others are empty.
use Rattle.row_evaluation.specs.Below.{BelowFilled}
use Rattle.row_evaluation.proofs.Evaluation.fill_below.Given as goal

abbrev pub invariant-loop-i : goal.invariant-loop-i
invariant-loop-i l = BelowFilled l.self l.rows l.i l.initial.work l.work

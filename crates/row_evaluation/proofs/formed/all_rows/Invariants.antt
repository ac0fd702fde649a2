-- `formed::all_rows` meets its contract. Invariant: the rows before i are well formed.
use Rattle.row_evaluation.specs.Forms.{AllFormed}
use Rattle.row_evaluation.proofs.formed.all_rows.Given as goal

abbrev pub invariant-loop-i : goal.invariant-loop-i
invariant-loop-i l = AllFormed l.signature l.rows l.i

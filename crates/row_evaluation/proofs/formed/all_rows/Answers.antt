-- `formed::all_rows` meets its contract. Invariant: the rows before i are well formed.
use Rattle.row_evaluation.proofs.Forming.{formed_more, formed_missing}
use Rattle.row_evaluation.proofs.formed.all_rows.Goals as goal

pub returns-then-not-is_row : goal.returns-then-not-is_row
returns-then-not-is_row c = formed_missing c.loop-i-test.true c.is_row.ensures c.if-not-is_row.true

pub loop-i-preserved : goal.loop-i-preserved
loop-i-preserved c = formed_more c.loop-i.invariant c.is_row.ensures c.if-not-is_row.false

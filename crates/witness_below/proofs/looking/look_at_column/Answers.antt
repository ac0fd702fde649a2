-- `look_at_column` meets its contract: one law for each answer.
use Rattle.witness_below.proofs.Looks.{asked_column, copied_column}
use Rattle.witness_below.proofs.looking.look_at_column.Goals as goal

pub returns-then-kept-eq-UNASKED : goal.returns-then-kept-eq-UNASKED
returns-then-kept-eq-UNASKED c = asked_column c.in-Some.ensures c.cell-kept.ensures c.if-kept-eq-UNASKED.true c.put_cell.ensures

pub returns : goal.returns
returns c = copied_column c.in-Some.ensures c.cell-kept.ensures c.if-kept-eq-UNASKED.false c.put_cell-2.ensures

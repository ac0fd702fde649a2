-- `looking::ask_part` meets its contract: one law for each answer.
use Rattle.witness_below.proofs.Looks.{asked_part, open_part}
use Rattle.witness_below.proofs.looking.ask_part.Goals as goal

pub returns-then-cell-eq-UNASKED : goal.returns-then-cell-eq-UNASKED
returns-then-cell-eq-UNASKED c = asked_part c.in_ok-part.ensures c.cell.ensures c.if-cell-eq-UNASKED.true c.put_cell.ensures

pub returns : goal.returns
returns c = open_part c.in_ok-part.ensures c.cell.ensures c.if-cell-eq-UNASKED.false

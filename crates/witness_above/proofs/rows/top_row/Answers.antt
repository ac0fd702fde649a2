-- `rows::top_row` meets its contract: the row found is one of ⊤.
use Rattle.witness_above.proofs.Steps.{top_found}
use Rattle.witness_above.proofs.rows.top_row.Goals as goal

pub returns-in-Some-Top : goal.returns-in-Some-Top
returns-in-Some-Top c = top_found c.loop-i-test.true (rw c.in-Some-Top.field-0-is at c.in-Some-Top.ensures)

-- `rows::put_restriction` meets its contract: over the row of the number, over a row of ⊤, or over a new one.
use mathlib.Core.Path.{refl}
use Rattle.witness_above.specs.Left.{over_new_top}
use Rattle.witness_above.proofs.Steps.{over_number, over_old_top}
use Rattle.witness_above.proofs.rows.put_restriction.Goals as goal

pub returns-then-number-ne0 : goal.returns-then-number-ne0
returns-then-number-ne0 c = over_number c.if-number-ne0.true c.put_row.ensures

pub returns-in-Some : goal.returns-in-Some
returns-in-Some c = over_old_top c.if-number-ne0.false c.in-Some.ensures c.put_row-in-Some.ensures

pub returns : goal.returns
returns c = over_new_top c.if-number-ne0.false c.put_row-2.ensures c.put_row-3.ensures refl

-- `Cells::holds` meets its contract: the byte of the row and node is in the memory lent.
use native.Mathlib.Omega.{arith}
use Rattle.row_evaluation.proofs.RowBytes.{place_inside}
use Rattle.row_evaluation.proofs.Putting.{tells_holds}
use Rattle.row_evaluation.proofs.cells.Cells.holds.Goals as goal

pub overflow_mul-result : goal.overflow_mul-result
overflow_mul-result c = omega (arith, place_inside c.requires.room c.requires.x_le_names)

pub overflow_add-result-2 : goal.overflow_add-result-2
overflow_add-result-2 c = omega (arith, place_inside c.requires.room c.requires.x_le_names)

pub overflow_add-result-3 : goal.overflow_add-result-3
overflow_add-result-3 c = omega (arith, place_inside c.requires.room c.requires.x_le_names)

pub bounds-work-self : goal.bounds-work-self
bounds-work-self c = place_inside c.requires.room c.requires.x_le_names

pub returns : goal.returns
returns c = tells_holds _ _ _ _ _

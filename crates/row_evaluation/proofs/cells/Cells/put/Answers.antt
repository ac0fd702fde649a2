-- `Cells::put` meets its contract: the byte of the row and node is in the memory lent.
use native.Mathlib.Omega.{arith}
use mathlib.Core.Path.{refl}
use Rattle.row_evaluation.proofs.RowBytes.{place_inside, put_adds}
use Rattle.row_evaluation.proofs.cells.Cells.put.Goals as goal

pub overflow_mul-work : goal.overflow_mul-work
overflow_mul-work c = omega (arith, place_inside c.requires.room c.requires.x_le_names)

pub overflow_add-work-2 : goal.overflow_add-work-2
overflow_add-work-2 c = omega (arith, place_inside c.requires.room c.requires.x_le_names)

pub overflow_add-work-3 : goal.overflow_add-work-3
overflow_add-work-3 c = omega (arith, place_inside c.requires.room c.requires.x_le_names)

pub bounds-work-self : goal.bounds-work-self
bounds-work-self c = place_inside c.requires.room c.requires.x_le_names

pub returns : goal.returns
returns c = put_adds c.requires.room c.requires.x_le_names _ refl

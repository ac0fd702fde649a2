-- `pairs::take` meets its contract: one byte is 0 then.
use native.Mathlib.Omega.{arith}
use mathlib.Core.Path.{refl}
use Rattle.row_evaluation.proofs.RowBytes.{place_inside}
use Rattle.witness_above.proofs.Steps.{taken_is}
use Rattle.witness_above.proofs.pairs.take.Goals as goal

pub overflow_mul-work : goal.overflow_mul-work
overflow_mul-work c = omega (arith, place_inside c.requires.room c.requires.y_le_names)

pub overflow_add-work-2 : goal.overflow_add-work-2
overflow_add-work-2 c = omega (arith, place_inside c.requires.room c.requires.y_le_names)

pub overflow_add-work-3 : goal.overflow_add-work-3
overflow_add-work-3 c = omega (arith, place_inside c.requires.room c.requires.y_le_names)

pub bounds-work-layout : goal.bounds-work-layout
bounds-work-layout c = place_inside c.requires.room c.requires.y_le_names

pub returns : goal.returns
returns c = taken_is c.requires.room c.requires.y_le_names _ refl

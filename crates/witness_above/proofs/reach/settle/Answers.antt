-- `reach::settle` meets its contract: the byte is in the memory.
use native.Mathlib.Omega.{arith}
use mathlib.Core.Path.{refl}
use Rattle.row_evaluation.proofs.RowBytes.{place_inside}
use Rattle.witness_above.proofs.Reaching.{settled_is}
use Rattle.witness_above.proofs.reach.settle.Goals as goal

pub overflow_mul-work : goal.overflow_mul-work
overflow_mul-work c = omega (arith, place_inside c.requires.room c.requires.y_le_names)

pub overflow_add-work-2 : goal.overflow_add-work-2
overflow_add-work-2 c = omega (arith, place_inside c.requires.room c.requires.y_le_names)

pub overflow_add-work-3 : goal.overflow_add-work-3
overflow_add-work-3 c = omega (arith, place_inside c.requires.room c.requires.y_le_names)

pub bounds-work-layout : goal.bounds-work-layout
bounds-work-layout c = place_inside c.requires.room c.requires.y_le_names

pub returns : goal.returns
returns c = settled_is c.requires.room c.requires.y_le_names _ refl

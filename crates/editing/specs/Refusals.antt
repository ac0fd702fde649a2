-- The refusals of a session's start and of its steps by number and side.
--   side_number d, edit_refusal r
use Rattle.std.specs.Prelude.{ℕ}
use Rattle.release.specs.Refusals.{Numbers}
use Rattle.meanings.specs.Refusals.{compare_refusal}
use Rattle.editing.specs.declared.refusals.EditRefusal.{EditRefusal}
use Rattle.editing.specs.declared.refusals.EditRefusal.TheVariants.{Comparison, NotEditable, NameTaken, NameFree}
use Rattle.editing.specs.declared.sides.Side.{Side}
use Rattle.editing.specs.declared.sides.Side.TheVariants.{First, Second}

abbrev pub side_number : Side → ℕ
side_number First = 1
side_number Second = 2

abbrev pub edit_refusal : EditRefusal → Numbers
edit_refusal (Comparison r) = compare_refusal r
edit_refusal NotEditable = record { number = 46; side = 0 }
edit_refusal (NameTaken d) = record { number = 47; side = side_number d }
edit_refusal (NameFree d) = record { number = 48; side = side_number d }

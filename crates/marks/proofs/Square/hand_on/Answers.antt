-- The other row is one of the same square.
use mathlib.Core.Path.{refl}
use Rattle.marks.proofs.Square.hand_on.Goals as goal

pub add_row-requires : goal.add_row-requires
add_row-requires c = record { room = (c.requires.room, c.requires.room); names_value = (refl, c.requires.from_le_names.0, c.requires.from_le_names.1) }

pub returns : goal.returns
returns c = c.add_row.ensures.grows refl

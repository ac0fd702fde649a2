-- `Evaluation::is_plain_above` meets its contract: the rows that it asks are earlier ones.
use Rattle.row_evaluation.proofs.RowBytes.{room_earlier}
use Rattle.row_evaluation.proofs.Evaluation.is_plain_above.Goals as goal

pub holds-requires-clause-room : goal.holds-requires-clause-room
holds-requires-clause-room c = room_earlier (rw c.in-Conjunction.is at c.requires.form).0 c.requires.room

pub holds-requires-else-holds-clause-room : goal.holds-requires-else-holds-clause-room
holds-requires-else-holds-clause-room c = room_earlier (rw c.in-Conjunction.is at c.requires.form).1 c.requires.room

pub is_filled_above-requires-clause-room : goal.is_filled_above-requires-clause-room
is_filled_above-requires-clause-room c = room_earlier (rw c.in-Restriction.is at c.requires.form) c.requires.room

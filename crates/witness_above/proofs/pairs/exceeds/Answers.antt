-- `pairs::exceeds` meets its contract. Invariant: the nodes before y that row x has are in the line.
use native.Mathlib.Omega.{arith}
use Rattle.row_evaluation.proofs.RowBytes.{room_earlier}
use Rattle.witness_above.proofs.pairs.exceeds.Goals as goal

pub holds-requires-clause-room : goal.holds-requires-clause-room
holds-requires-clause-room c = room_earlier (omega (arith, c.requires.x_le_names)) c.requires.room

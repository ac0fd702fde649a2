-- The bytes of the row lie in the memory, one after the other.
use Prim.Native.Nat.{◌/◌}
use native.Mathlib.Omega.{arith}
use Rattle.marks.proofs.Squares.{row_inside, row_bytes, row_taken}
use Rattle.marks.proofs.Square.row.Goals as goal

pub slice_bounds-result-end : goal.slice_bounds-result-end
slice_bounds-result-end c =
    omega (arith, row_bytes _ c.width.ensures.0, (row_inside {i = c.args.self.names / 8} c.requires.room c.requires.x_le_names (omega arith) c.place-row.ensures).0)

pub returns : goal.returns
returns c = row_taken c.requires.room c.requires.x_le_names c.place-row.ensures c.width.ensures.0

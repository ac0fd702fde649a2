-- The first i bytes are put into the other row: in the same square as a growth by a rule, in another one as hints. Both rows lie in the memory.
use mathlib.Core.Path.{◌≡◌}
use lib.ListN.{length}
use Prim.Native.Nat.{◌+◌, ◌≤◌}
use Rattle.marks.specs.Squares.{width, Hints}
use Rattle.marks.specs.Passes.{Grows, FromRow}
use Rattle.marks.proofs.Square.add_row.Given as goal

abbrev pub invariant-loop-i : goal.invariant-loop-i
invariant-loop-i l = (l.fn.target ≡ l.fn.self → Grows (FromRow l.fn.self l.x l.to) l.fn.self l.initial.work l.work) × Hints l.fn.target l.initial.work l.work
    × (l.given + width l.fn.self.names ≤ length l.initial.work) × (l.had + width l.fn.self.names ≤ length l.initial.work)

-- The first i bytes of the row have what the line has not. The row lies in the memory.
use lib.ListN.{length}
use Prim.Native.Nat.{◌+◌, ◌≤◌}
use Rattle.marks.specs.Squares.{width}
use Rattle.marks.specs.Passes.{Grows}
use Rattle.marks.specs.Lines.{Missing}
use Rattle.marks.proofs.Square.mark_missing.Given as goal

abbrev pub invariant-loop-i : goal.invariant-loop-i
invariant-loop-i l = Grows (Missing l.line l.x) l.fn.self l.initial.work l.work × (l.target + width l.fn.self.names ≤ length l.initial.work)

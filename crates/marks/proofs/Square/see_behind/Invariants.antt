-- Only hints were put behind the square, and not more bytes are counted than were looked at. Both rows lie in the memory.
use lib.ListN.{length}
use Prim.Native.Nat.{◌+◌, ◌≤◌}
use Rattle.marks.specs.Squares.{width, Hints}
use Rattle.marks.proofs.Square.see_behind.Given as goal

abbrev pub invariant-loop-i : goal.invariant-loop-i
invariant-loop-i l = Hints l.fn.seen l.initial.work l.work × (l.count ≤ l.i)
    × (l.source + width l.fn.self.names ≤ length l.initial.work) × (l.target + width l.fn.self.names ≤ length l.initial.work)

-- The nodes left are a hint, so only places in the array are at stake. Invariant: no more are counted than it has places.
use Prim.Native.Nat.{◌≤◌}
use Rattle.marks.specs.Columns.{Walkable}
use Rattle.forward.proofs.consequences.find_left.Given as goal

abbrev pub invariant-loop-y : goal.invariant-loop-y
invariant-loop-y l = Walkable l.given.layout.names l.y-iterator × (l.count ≤ 4)

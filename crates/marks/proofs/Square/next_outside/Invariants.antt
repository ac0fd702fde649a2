-- Each mark before the block that is looked at is in the line.
use Prim.Native.Nat.{◌+◌, ◌-◌}
use Rattle.marks.proofs.Lines.{InBefore}
use Rattle.marks.proofs.Square.next_outside.Given as goal

abbrev pub invariant-loop-y : goal.invariant-loop-y
invariant-loop-y l = InBefore l.self l.work l.x l.line l.from l.y

abbrev pub decreases-loop-y : goal.decreases-loop-y
decreases-loop-y l = 64 + l.self.names - l.y

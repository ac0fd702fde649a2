-- No bit is 1 before the block that is looked at.
use Prim.Native.Nat.{◌+◌, ◌-◌}
use Rattle.marks.proofs.Scans.{NoneBefore}
use Rattle.marks.proofs.words.next_bit.Given as goal

abbrev pub invariant-loop-y : goal.invariant-loop-y
invariant-loop-y l = NoneBefore l.names l.memory l.row l.from l.y

abbrev pub decreases-loop-y : goal.decreases-loop-y
decreases-loop-y l = 64 + l.names - l.y

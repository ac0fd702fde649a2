-- All columns before the one that is looked at are marked.
use Prim.Native.Nat.{◌+◌, ◌-◌}
use Rattle.marks.proofs.Squares.{AllBefore}
use Rattle.marks.proofs.Square.next_unmarked.Given as goal

-- all is marked before y
abbrev pub invariant-loop-y : goal.invariant-loop-y
invariant-loop-y l = AllBefore l.self l.work l.x l.from l.y

abbrev pub decreases-loop-y : goal.decreases-loop-y
decreases-loop-y l = 8 + l.self.names - l.y

-- The next node that a line leaves open. Invariant: from `from` on, each node before the next one looked at is in the line or marked.
use Prim.Native.Nat.{suc, ◌≤◌, ◌-◌}
use Rattle.layout.specs.Searches.{EachBelow}
use Rattle.forward.proofs.Tested.{SettledFrom}
use Rattle.forward.proofs.kept.next_missing.Given as goal

abbrev pub invariant-loop-y : goal.invariant-loop-y
invariant-loop-y l = (l.from ≤ l.next) × EachBelow (SettledFrom l.marks l.work l.x l.kept l.from) l.next

abbrev pub decreases-loop-y : goal.decreases-loop-y
decreases-loop-y l = suc l.marks.names - l.next

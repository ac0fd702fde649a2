-- The roles of an edge, one after the other. Invariant: from `from` on, by each role before the next one nothing is left to mark.
use Prim.Native.Nat.{◌≤◌, ◌-◌}
use Rattle.layout.specs.Searches.{EachBelow}
use Rattle.forward.proofs.Tested.{QuietFrom}
use Rattle.forward.proofs.kept.next_open.Given as goal

abbrev pub invariant-loop-next : goal.invariant-loop-next
invariant-loop-next l = (l.from ≤ l.next) × EachBelow (QuietFrom l.given l.work l.x l.from) l.next

abbrev pub decreases-loop-next : goal.decreases-loop-next
decreases-loop-next l = 32 - l.next

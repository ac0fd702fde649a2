-- The roles of the set, one after the other. Invariant: found are those before the next one that lie so.
use Prim.Native.Nat.{◌-◌, ◌≤◌}
use Rattle.layout.proofs.Findings.{RolesTo}
use Rattle.layout.proofs.edges.find_among.Given as goal

abbrev pub invariant-loop-next : goal.invariant-loop-next
invariant-loop-next l = (l.next ≤ 32) × RolesTo l.position l.first.table.now l.among.0 l.own.0 l.next l.found.0

abbrev pub decreases-loop-next : goal.decreases-loop-next
decreases-loop-next l = 32 - l.next

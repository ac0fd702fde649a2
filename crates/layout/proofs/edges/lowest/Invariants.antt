-- The roles, one after the other. Invariant: of those that are kept one serves for each role.
use Prim.Native.Nat.{◌-◌, ◌≤◌}
use Rattle.layout.specs.Findings.{Lowest}
use Rattle.layout.proofs.edges.lowest.Given as goal

abbrev pub invariant-loop-next : goal.invariant-loop-next
invariant-loop-next l = (l.next ≤ 32) × Lowest l.second.table.now l.roles.0 l.kept.0

abbrev pub decreases-loop-next : goal.decreases-loop-next
decreases-loop-next l = 32 - l.next

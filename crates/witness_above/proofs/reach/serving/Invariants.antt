-- `reach::serving` meets its contract. Invariant: the roles that serve for those found so far.
use Prim.Native.Nat.{◌-◌, ◌≤◌}
use Rattle.witness_above.proofs.EdgeRoles.{ServingTo}
use Rattle.witness_above.proofs.reach.serving.Given as goal

abbrev pub invariant-loop-next : goal.invariant-loop-next
invariant-loop-next l = (l.next ≤ 32) × ServingTo l.given l.c l.next l.serving.0

abbrev pub decreases-loop-next : goal.decreases-loop-next
decreases-loop-next l = 32 - l.next

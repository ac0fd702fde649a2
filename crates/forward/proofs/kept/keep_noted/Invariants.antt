-- The roles that serve, one after the other. Invariant: what is in the line has a partner.
use Prim.Native.Nat.{◌-◌, ◌≤◌}
use Rattle.forward.specs.Rules.{Partnered}
use Rattle.forward.proofs.kept.keep_noted.Given as goal

abbrev pub invariant-loop-next : goal.invariant-loop-next
invariant-loop-next l =
    (l.next ≤ 32)
    × Partnered l.given l.work l.end l.asked.role.0 l.kept

abbrev pub decreases-loop-next : goal.decreases-loop-next
decreases-loop-next l = 32 - l.next

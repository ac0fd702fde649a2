-- `turns::turn_edged` meets its contract. Invariant: turns were made for the roles found so far.
use Prim.Native.Nat.{◌-◌, ◌≤◌}
use Rattle.witness_above.proofs.Going.{RolesTurned}
use Rattle.witness_above.proofs.turns.turn_edged.Given as goal

abbrev pub invariant-loop-next : goal.invariant-loop-next
invariant-loop-next l = (l.next ≤ 32)
    × RolesTurned l.given l.asked.0 l.name.0 l.next l.count l.initial.rows l.rows l.initial.numbers l.numbers l.initial.work l.work l.written

abbrev pub decreases-loop-next : goal.decreases-loop-next
decreases-loop-next l = 32 - l.next

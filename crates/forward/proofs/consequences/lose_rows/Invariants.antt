-- The roles of the edge of x, one after the other. Invariant: marks that the rules allow were put.
use Prim.Native.Nat.{◌-◌, ◌≤◌}
use Rattle.forward.specs.Rules.{Setting, Followed}
use Rattle.forward.proofs.consequences.lose_rows.Given as goal

abbrev pub invariant-loop-role : goal.invariant-loop-role
invariant-loop-role l =
    (l.next ≤ 32)
    × Setting l.given l.work
    × Followed l.given l.initial.work l.work

abbrev pub decreases-loop-role : goal.decreases-loop-role
decreases-loop-role l = 32 - l.next

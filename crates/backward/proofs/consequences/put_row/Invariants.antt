-- The loop's invariant: the marks grow by the rule.
use Prim.Native.Nat.{suc, ◌-◌}
use Rattle.backward.specs.Rules.{Followed}
use Rattle.backward.proofs.consequences.put_row.Given as goal

abbrev pub invariant-loop-y : goal.invariant-loop-y
invariant-loop-y l = Followed l.given l.initial.work l.work

abbrev pub decreases-loop-y : goal.decreases-loop-y
decreases-loop-y l = suc l.given.layout.names - l.next

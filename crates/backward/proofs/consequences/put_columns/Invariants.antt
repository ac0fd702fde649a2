-- The loop's invariant: the marks grow by the rule.
use Prim.Native.Nat.{suc, ◌-◌}
use Rattle.backward.specs.Rules.{Followed}
use Rattle.backward.proofs.consequences.put_columns.Given as goal

abbrev pub invariant-loop-name : goal.invariant-loop-name
invariant-loop-name l = Followed l.given l.initial.work l.work

abbrev pub decreases-loop-name : goal.decreases-loop-name
decreases-loop-name l = suc l.given.layout.names - l.next

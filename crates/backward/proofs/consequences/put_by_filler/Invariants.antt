-- The loop's invariant: the marks grow by the rule.
use Prim.Native.Nat.{suc, ◌-◌}
use Rattle.backward.specs.Rules.{Followed}
use Rattle.backward.proofs.consequences.put_by_filler.Given as goal

abbrev pub invariant-loop-x : goal.invariant-loop-x
invariant-loop-x l = Followed l.given l.initial.work l.work

abbrev pub decreases-loop-x : goal.decreases-loop-x
decreases-loop-x l = suc l.given.layout.names - l.next

-- The marks are put by the rules.
use Prim.Native.Nat.{suc, ◌-◌}
use Rattle.classification.specs.Steps.{Grown}
use Rattle.classification.proofs.Classification.put_gathered.Given as goal

abbrev pub invariant-loop-conjunction : goal.invariant-loop-conjunction
invariant-loop-conjunction l = Grown l.self l.initial.work l.work

abbrev pub decreases-loop-conjunction : goal.decreases-loop-conjunction
decreases-loop-conjunction l = suc l.self.square.names - l.from

-- The marks are put by the rules.
use Prim.Native.Nat.{suc, ◌-◌}
use Rattle.classification.specs.Steps.{Grown}
use Rattle.classification.proofs.Classification.put_over.Given as goal

abbrev pub invariant-loop-above : goal.invariant-loop-above
invariant-loop-above l = Grown l.self l.initial.work l.work

abbrev pub decreases-loop-above : goal.decreases-loop-above
decreases-loop-above l = suc l.self.square.names - l.from

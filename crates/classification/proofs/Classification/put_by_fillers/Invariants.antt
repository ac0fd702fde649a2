-- The marks are put by the rules.
use Prim.Native.Nat.{suc, ◌-◌}
use Rattle.classification.specs.Steps.{Grown}
use Rattle.classification.proofs.Classification.put_by_fillers.Given as goal

abbrev pub invariant-loop-restriction : goal.invariant-loop-restriction
invariant-loop-restriction l = Grown l.self l.initial.work l.work

abbrev pub decreases-loop-restriction : goal.decreases-loop-restriction
decreases-loop-restriction l = suc l.self.square.names - l.from

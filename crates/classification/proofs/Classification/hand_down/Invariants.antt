-- Row x was handed on to rows that it is marked in.
use Prim.Native.Nat.{suc, ◌-◌}
use Rattle.marks.specs.Passes.{Grows}
use Rattle.marks.specs.Inclusions.{Taking}
use Rattle.classification.proofs.Classification.hand_down.Given as goal

abbrev pub invariant-loop-lower : goal.invariant-loop-lower
invariant-loop-lower l = Grows (Taking l.self.square l.self.square) l.self.square l.initial.work l.work

abbrev pub decreases-loop-lower : goal.decreases-loop-lower
decreases-loop-lower l = suc l.self.square.names - l.from

-- `lose_all` meets its contract: the rows have lost what the names, and the atoms from the next one on, do not have below them.
use Prim.Native.Nat.{◌-◌}
use lib.ListN.{length}
use Rattle.question.proofs.Turns.{Losing}
use Rattle.question.proofs.evaluation.lose_all.Given as goal

abbrev pub invariant-loop-atom : goal.invariant-loop-atom
invariant-loop-atom l = Losing l.classified l.below l.above (l.above.extent.atoms - length l.yielded) l.nodes l.roots

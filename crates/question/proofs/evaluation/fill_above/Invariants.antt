-- `fill_above` meets its contract: the rows are those of the atoms from the next one on.
use Prim.Native.Nat.{◌-◌}
use lib.ListN.{length}
use Rattle.outline.specs.Atoms.{atoms_from}
use Rattle.question.specs.Evaluation.{Above}
use Rattle.question.proofs.evaluation.fill_above.Given as goal

abbrev pub invariant-loop-atom : goal.invariant-loop-atom
invariant-loop-atom l =
    let left = l.outline.extent.atoms - length l.yielded in
    Above l.classified l.above (atoms_from l.outline.atoms left (l.outline.extent.atoms - left))

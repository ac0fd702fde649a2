-- All names, one after the other. Invariant: marks that names give were put.
use Rattle.marks.specs.Passes.{Grows}
use Rattle.layout.specs.Layouts.{mark_square}
use Rattle.forward.specs.Rules.{Named, NameLost}
use Rattle.forward.proofs.propagation.mark_names.Given as goal

abbrev pub invariant-loop-x : goal.invariant-loop-x
invariant-loop-x l =
    Named l.given l.work
    × Grows (NameLost l.given) (mark_square l.given.layout) l.initial.work l.work

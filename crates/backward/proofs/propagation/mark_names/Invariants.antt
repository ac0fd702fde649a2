-- The loop's invariant: the marks grow by the rule.
use Rattle.marks.specs.Passes.{Grows}
use Rattle.layout.specs.Layouts.{mark_square}
use Rattle.backward.specs.Rules.{NameLost}
use Rattle.backward.proofs.propagation.mark_names.Given as goal

abbrev pub invariant-loop-x : goal.invariant-loop-x
invariant-loop-x l = Grows (NameLost l.given) (mark_square l.given.layout) l.initial.work l.work

-- Only hints change.
use Rattle.marks.specs.Squares.{Hints}
use Rattle.marks.proofs.Square.see_all_behind.Given as goal

abbrev pub invariant-loop-x : goal.invariant-loop-x
invariant-loop-x l = Hints l.seen l.initial.work l.work

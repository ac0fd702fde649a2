-- Only hints change.
use Rattle.marks.specs.Squares.{Kept}
use Rattle.layout.specs.Layouts.{mark_square}
use Rattle.forward.proofs.hints.list_restrictions.Given as goal

abbrev pub invariant-loop-name : goal.invariant-loop-name
invariant-loop-name l = Kept (mark_square l.given.layout) l.initial.work l.work

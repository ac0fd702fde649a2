-- The line is a hint, so only its length and the places in the table are at stake. Invariant: a walk of hints.
use Rattle.marks.specs.Columns.{Walkable}
use Rattle.forward.proofs.consequences.touch_by.Given as goal

abbrev pub invariant-loop-name : goal.invariant-loop-name
invariant-loop-name l = Walkable l.given.layout.names l.name-iterator

-- The line has what the first i bytes of the row have.
use Rattle.marks.proofs.Lines.{JoinedTo}
use Rattle.marks.proofs.Square.join.Given as goal

abbrev pub invariant-loop-i : goal.invariant-loop-i
invariant-loop-i l = JoinedTo l.fn.self l.work l.x l.initial.line l.line l.i

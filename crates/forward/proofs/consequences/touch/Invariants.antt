-- The line is a hint, so only its length is at stake.
use Rattle.marks.specs.Columns.{Walkable}
use Rattle.forward.proofs.consequences.touch.Given as goal

abbrev pub invariant-loop-filler : goal.invariant-loop-filler
invariant-loop-filler l = Walkable l.given.layout.names l.filler-iterator

-- Which rows wait is a hint, so only places in the row are at stake. Invariant: a walk of the columns outside the line.
use Rattle.marks.specs.Columns.{WalksOutside}
use Rattle.layout.specs.Layouts.{first_square}
use Rattle.forward.proofs.propagation.wait_for_above.Given as goal

abbrev pub invariant-loop-later : goal.invariant-loop-later
invariant-loop-later l = WalksOutside (first_square l.given.layout) l.work l.x l.done l.later-iterator

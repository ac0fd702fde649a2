-- Each row that waited goes on waiting.
use Rattle.marks.specs.Waits.{StillWaiting}
use Rattle.marks.proofs.Square.wait_behind.Given as goal

abbrev pub invariant-loop-x : goal.invariant-loop-x
invariant-loop-x l = StillWaiting l.initial.waiting l.waiting

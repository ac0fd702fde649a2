-- The loop's invariant: each row that waited goes on waiting.
use Rattle.marks.specs.Waits.{StillWaiting}
use Rattle.marks.proofs.waiting.Waiting.wait_all.Given as goal

abbrev pub invariant-loop-x : goal.invariant-loop-x
invariant-loop-x l = StillWaiting l.initial.self l.self

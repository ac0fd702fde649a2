-- Each column looked at so far is in the line or marked; nothing has changed.
use mathlib.Core.Path.{◌≡◌}
use Rattle.marks.proofs.Lines.{FullTo}
use Rattle.marks.proofs.Square.absorb_missing.Given as goal

abbrev pub invariant-loop-y : goal.invariant-loop-y
invariant-loop-y l = (l.work ≡ l.initial.work) × FullTo l.self l.line l.x l.y l.work

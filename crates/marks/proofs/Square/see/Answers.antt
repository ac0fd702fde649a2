-- Where there is room behind the square it is what `see_behind` promises of the memory there; else the row is joined to the line.
use native.Mathlib.Omega.{arith}
use Rattle.marks.proofs.Squares.{hints_kept}
use Rattle.marks.proofs.Square.see.Goals as goal

pub returns-in-Some : goal.returns-in-Some
returns-in-Some c = (hints_kept (c.in-Some.ensures.behind (omega arith)) c.see_behind.ensures.0, c.see_behind.ensures.1)

-- What is seen lies behind the rows.
use native.Mathlib.Omega.{arith}
use Rattle.marks.proofs.Squares.{hints_kept}
use Rattle.marks.proofs.Square.see_all.Goals as goal

pub returns-in-Some : goal.returns-in-Some
returns-in-Some c = hints_kept (c.in-Some.ensures.behind (omega arith)) c.see_all_behind.ensures

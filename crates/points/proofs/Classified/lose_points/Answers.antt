-- `lose_points` meets its contract: the line is empty at first, and long enough.
use native.Mathlib.Omega.{arith}
use Rattle.marks.proofs.Lines.{empty_zeros}
use Rattle.points.proofs.Classified.lose_points.Goals as goal

pub find_idle_of-requires-clause-spans : goal.find_idle_of-requires-clause-spans
find_idle_of-requires-clause-spans c = (record { inside = omega (arith, c.requires.inclusive.few) }, empty_zeros 128)

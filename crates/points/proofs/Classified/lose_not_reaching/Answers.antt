-- `lose_not_reaching` meets its contract: the line is empty at first, and long enough.
use native.Mathlib.Omega.{arith}
use Rattle.marks.proofs.Lines.{empty_zeros}
use Rattle.points.proofs.LosingRoots.{lost_outside}
use Rattle.points.proofs.Classified.lose_not_reaching.Goals as goal

pub find_reaching-requires-clause-reaching : goal.find_reaching-requires-clause-reaching
find_reaching-requires-clause-reaching c = (omega arith, empty_zeros 16)

pub returns : goal.returns
returns c = lost_outside c.find_reaching.ensures c.add_outside.ensures

-- `has` meets its contract: the place is a column of the line that the grid is.
use Rattle.points.specs.Grids.{cell}
use Rattle.points.proofs.Pairs.has.Goals as goal

pub returns : goal.returns
unfolding cell
returns c = c.has.ensures

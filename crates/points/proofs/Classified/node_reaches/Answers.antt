-- `node_reaches` meets its contract: of the columns above the node that are not in the line, the first is a name or there is none.
use Rattle.points.proofs.LosingNodes.{first_reaches}
use Rattle.points.proofs.Classified.node_reaches.Goals as goal

pub returns : goal.returns
returns c = first_reaches c.in-Some.ensures

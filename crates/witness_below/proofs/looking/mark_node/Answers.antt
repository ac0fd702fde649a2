-- `looking::mark_node` meets its contract: the row of the node is kept for the pair.
use Rattle.witness_below.proofs.Looks.{by_old_row}
use Rattle.witness_below.proofs.looking.mark_node.Goals as goal

pub returns : goal.returns
returns c = (by_old_row c.put_cell.ensures c.node_row-row.ensures.0 c.if-row-count.false c.made-2.ensures, c.node_row-row.ensures.1)

-- `pairs::line_edge` meets its contract: the line is the row of the evaluation behind those of the nodes.
use native.Mathlib.Numerals.{add-one}
use Rattle.witness_above.proofs.pairs.line_edge.Goals as goal

pub returns : goal.returns
returns c = rw (c.second_rows.ensures, add-one) at c.put_some.ensures

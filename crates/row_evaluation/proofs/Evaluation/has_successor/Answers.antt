-- `Evaluation::has_successor` meets its contract: row j is asked for the node that the role leads to.
use Rattle.row_evaluation.proofs.FillingBelow.{successor_held, no_successor}
use Rattle.row_evaluation.proofs.Evaluation.has_successor.Goals as goal

pub returns : goal.returns
returns c = successor_held c.in-Some.ensures c.holds.ensures

pub returns-in_default : goal.returns-in_default
returns-in_default c = no_successor c.in_default.ensures

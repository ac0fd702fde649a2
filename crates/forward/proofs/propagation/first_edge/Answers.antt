-- The edge of x: the marks put are those of its row; whether its end waits is a hint.
use Rattle.marks.specs.Passes.{none}
use Rattle.forward.proofs.propagation.first_edge.Goals as goal

pub returns-then-is_empty : goal.returns-then-is_empty
returns-then-is_empty c = none

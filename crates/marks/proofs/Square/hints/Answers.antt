-- The place of the k-th square, where there is room for it.
use Rattle.marks.proofs.Squares.{hint_square}
use Rattle.marks.proofs.Square.hints.Goals as goal

pub returns-then-is_roomy : goal.returns-then-is_roomy
returns-then-is_roomy c = hint_square c.requires.1 (c.is_roomy.ensures c.if-is_roomy.true) c.behind.ensures

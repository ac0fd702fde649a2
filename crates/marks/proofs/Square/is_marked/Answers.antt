-- The bit is the one that the cell is marked by.
use Rattle.marks.proofs.Squares.{tells_marked}
use Rattle.marks.proofs.Square.is_marked.Goals as goal

pub returns : goal.returns
returns c = tells_marked _ c.place-i.ensures

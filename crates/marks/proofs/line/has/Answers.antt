-- The bit is the one that the line has the column by.
use Rattle.marks.proofs.Lines.{tells_has}
use Rattle.marks.proofs.line.has.Goals as goal

pub bounds-line-y : goal.bounds-line-y
bounds-line-y c = c.requires.inside

pub returns : goal.returns
returns c = tells_has _ _

-- The byte of the column gets one bit more.
use Rattle.marks.proofs.Lines.{or_added}
use Rattle.marks.proofs.line.add.Goals as goal

pub bounds-line-y : goal.bounds-line-y
bounds-line-y c = c.requires.inside

pub bounds-line-y-2 : goal.bounds-line-y-2
bounds-line-y-2 c = c.requires.inside

pub returns : goal.returns
returns c = or_added _ _ c.requires.inside

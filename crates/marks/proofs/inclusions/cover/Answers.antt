-- A row joined to the line, or none.
use Rattle.marks.proofs.Handing.{covering_joined, covering_none}
use Rattle.marks.proofs.inclusions.cover.Goals as goal

pub returns-then-has : goal.returns-then-has
returns-then-has c = covering_joined (c.has.ensures.sound c.if-has.true) c.join.ensures

pub returns-else-has : goal.returns-else-has
returns-else-has c = covering_none

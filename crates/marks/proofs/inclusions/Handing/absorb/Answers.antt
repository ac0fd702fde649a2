-- A row that absorbs another is a step along inclusions, in the one direction or in the other.
use Rattle.marks.proofs.Handing.{taken, given}
use Rattle.marks.proofs.inclusions.Handing.absorb.Goals as goal

pub returns-in-Down : goal.returns-in-Down
returns-in-Down c = rw c.in-Down.is (taken c.requires.x_le_names.1 c.requires.marked c.absorb.ensures)

pub returns-in-Up : goal.returns-in-Up
returns-in-Up c = rw c.in-Up.is (given c.requires.x_le_names.0 c.requires.marked c.absorb-in-Up.ensures)

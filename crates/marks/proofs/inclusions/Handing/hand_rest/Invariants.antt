-- The loop's invariant: the marks of the rows before x are handed, if those of the rows that were done are.
use mathlib.Core.Path.{◌≡◌}
use lib.ListN.{length}
use Rattle.marks.specs.Squares.{Room}
use Rattle.marks.specs.Passes.{Pass}
use Rattle.marks.specs.Inclusions.{Handed, Hands}
use Rattle.marks.proofs.Handing.{RestTo}
use Rattle.marks.proofs.inclusions.Handing.hand_rest.Given as goal

abbrev pub invariant-loop-x : goal.invariant-loop-x
invariant-loop-x l = (Room l.self.inclusions l.work × Room l.self.marks l.work) × (length l.work ≡ length l.initial.work) × Pass
    (Handed l.self.direction l.self.inclusions l.self.marks) l.self.marks
    (RestTo l.self.inclusions.names (Hands l.self.direction l.self.inclusions l.self.marks) l.done l.x) l.initial.work l.work l.changed

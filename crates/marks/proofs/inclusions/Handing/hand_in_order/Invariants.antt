-- The loop's invariant: the marks of the rows that are done are handed.
use mathlib.Core.Path.{◌≡◌}
use lib.ListN.{length}
use Rattle.marks.specs.Squares.{Room}
use Rattle.marks.specs.Passes.{Pass}
use Rattle.marks.specs.Orders.{Walking}
use Rattle.marks.specs.Inclusions.{Handed, Hands, Done}
use Rattle.marks.proofs.inclusions.Handing.hand_in_order.Given as goal

abbrev pub invariant-loop-x : goal.invariant-loop-x
invariant-loop-x l = Walking l.self.inclusions.names l.x-iterator × (Room l.self.inclusions l.work × Room l.self.marks l.work)
    × ((length l.work ≡ length l.initial.work) × (length l.done ≡ length l.initial.done)) × Pass
    (Handed l.self.direction l.self.inclusions l.self.marks) l.self.marks
    (Done l.self.inclusions.names l.done (Hands l.self.direction l.self.inclusions l.self.marks)) l.initial.work l.work l.changed

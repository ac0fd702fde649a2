-- The loop's invariant: what is known of the rows above row x before the next column, and of those that the line has.
use Prim.Native.Nat.{suc, ◌-◌}
use mathlib.Core.Path.{◌≡◌}
use lib.ListN.{length}
use Rattle.marks.specs.Squares.{Room}
use Rattle.marks.specs.Passes.{Pass}
use Rattle.marks.specs.Inclusions.{Handed, Reaches}
use Rattle.marks.proofs.Handing.{Known}
use Rattle.marks.proofs.inclusions.Handing.hand_others.Given as goal

abbrev pub invariant-loop-above : goal.invariant-loop-above
invariant-loop-above l = (Room l.self.inclusions l.work × Room l.self.marks l.work)
    × ((length l.work ≡ length l.initial.work) × (length l.covered ≡ length l.initial.covered))
    × Pass (Handed l.self.direction l.self.inclusions l.self.marks) l.self.marks
    (Known (Reaches l.self.direction l.self.marks) l.self.inclusions l.done l.initial.covered l.covered l.x l.from) l.initial.work l.work l.changed

abbrev pub decreases-loop-above : goal.decreases-loop-above
decreases-loop-above l = suc l.self.inclusions.names - l.from

-- The rows below x, one after the other. Invariant: marks of rows above were put in rows below.
use Prim.Native.Nat.{suc, ◌-◌}
use Rattle.marks.specs.Squares.{Room, Area}
use Rattle.marks.specs.Passes.{Grows}
use Rattle.layout.specs.Layouts.{first_square, mark_square}
use Rattle.forward.specs.Rules.{FromAbove}
use Rattle.forward.proofs.consequences.hand_down.Given as goal

abbrev pub invariant-loop-lower : goal.invariant-loop-lower
invariant-loop-lower l =
    (Area (first_square l.given.layout) l.work × Room (mark_square l.given.layout) l.work)
    × Grows (FromAbove l.given.layout) (mark_square l.given.layout) l.initial.work l.work

abbrev pub decreases-loop-lower : goal.decreases-loop-lower
decreases-loop-lower l = suc l.inclusions.names - l.next

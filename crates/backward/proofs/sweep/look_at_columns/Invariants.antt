-- The loop's invariant: the pairs of the columns before the next one are looked at, or marked.
use Prim.Native.Nat.{suc, ◌-◌}
use Rattle.marks.specs.Passes.{Pass, Below}
use Rattle.layout.specs.Layouts.{mark_square}
use Rattle.backward.specs.Rules.{PlainLost, Cell}
use Rattle.backward.proofs.sweep.look_at_columns.Given as goal

abbrev pub invariant-loop-y : goal.invariant-loop-y
invariant-loop-y l = Pass (PlainLost l.given) (mark_square l.given.layout)
    (Below (Cell (PlainLost l.given) l.given.layout l.x) l.next) l.initial.work l.work l.changed

abbrev pub decreases-loop-y : goal.decreases-loop-y
decreases-loop-y l = suc l.given.layout.names - l.next

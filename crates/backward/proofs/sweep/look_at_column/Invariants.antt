-- The loop's invariant: the pairs of the rows before the next one are looked at.
use Rattle.marks.specs.Passes.{Pass, Below}
use Rattle.layout.specs.Layouts.{mark_square}
use Rattle.backward.specs.Rules.{PartLost, Cell}
use Rattle.backward.proofs.sweep.look_at_column.Given as goal

abbrev pub invariant-loop-x : goal.invariant-loop-x
invariant-loop-x l = Pass (PartLost l.given) (mark_square l.given.layout)
    (Below (λ x. Cell (PartLost l.given) l.given.layout x l.y) l.x) l.initial.work l.work l.changed

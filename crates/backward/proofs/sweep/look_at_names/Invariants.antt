-- The loop's invariant: the rows and columns of the names before the next one are looked at.
use Rattle.marks.specs.Passes.{Pass, Below}
use Rattle.layout.specs.Layouts.{mark_square}
use Rattle.backward.specs.Rules.{Own}
use Rattle.backward.proofs.Tested.{Looked}
use Rattle.backward.proofs.sweep.look_at_names.Given as goal

abbrev pub invariant-loop-x : goal.invariant-loop-x
invariant-loop-x l = Pass (Own l.given) (mark_square l.given.layout)
    (Below (Looked l.given) l.x) l.initial.work l.work l.changed

-- All names, one after the other. Invariant: a pass after which nothing is left to mark by the names before this one.
use Rattle.marks.specs.Passes.{Pass, Below}
use Rattle.layout.specs.Layouts.{mark_square}
use Rattle.forward.specs.Rules.{Setting, Step, Looked}
use Rattle.forward.proofs.sweep.look_at_names.Given as goal

abbrev pub invariant-loop-x : goal.invariant-loop-x
invariant-loop-x l =
    Setting l.given l.work
    × Pass (Step l.given) (mark_square l.given.layout) (Below (Looked l.given) l.x) l.initial.work l.work l.changed

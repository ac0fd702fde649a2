-- The nodes noted, one after the other. Invariant: marks that the rules allow were put, if the answer so far says so.
use Rattle.marks.specs.Passes.{Pass, Anything}
use Rattle.layout.specs.Layouts.{mark_square}
use Rattle.forward.specs.Rules.{Setting, Follows}
use Rattle.forward.proofs.consequences.lose_each.Given as goal

abbrev pub invariant-loop-y : goal.invariant-loop-y
invariant-loop-y l =
    Setting l.given l.work
    × Pass (Follows l.given) (mark_square l.given.layout) Anything l.initial.work l.work l.changed

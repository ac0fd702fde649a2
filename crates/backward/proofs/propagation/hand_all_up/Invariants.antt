-- All rows, those of lower rows first. Invariant: two walks of the order from the last node on, and marks grow by the rule.
use Rattle.marks.specs.Orders.{Walking}
use Rattle.marks.specs.Passes.{Grows}
use Rattle.layout.specs.Layouts.{mark_square}
use Rattle.backward.specs.Rules.{FromBelow}
use Rattle.backward.proofs.propagation.hand_all_up.Given as goal

abbrev pub invariant-loop-x : goal.invariant-loop-x
invariant-loop-x l =
    Walking l.given.layout.names l.x-iterator.iter
    × Walking l.given.layout.names l.ahead.iter
    × Grows (FromBelow l.given.layout) (mark_square l.given.layout) l.initial.work l.work

-- All rows in their order. Invariant: marks that the rules allow were put.
use Rattle.marks.specs.Orders.{Walking}
use Rattle.forward.specs.Rules.{Setting, Followed}
use Rattle.forward.proofs.propagation.first_rows.Given as goal

abbrev pub invariant-loop-x : goal.invariant-loop-x
invariant-loop-x l =
    Walking l.given.layout.names l.x-iterator
    × Setting l.given l.work
    × Followed l.given l.initial.work l.work

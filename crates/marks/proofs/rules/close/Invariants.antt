-- Marks that the rules allow were put. Each pass that puts a mark leaves fewer to put.
use Rattle.marks.specs.Squares.{unset}
use Rattle.marks.specs.Passes.{Grows}
use Rattle.marks.proofs.rules.close.Given as goal

abbrev pub invariant-loop-work : goal.invariant-loop-work
invariant-loop-work g l = Grows (g.R.Rules.allowed l.rules) (g.R.Rules.marks l.rules) l.initial.work l.work

abbrev pub decreases-loop-work : goal.decreases-loop-work
decreases-loop-work g l = unset l.work

-- Marks that follow were put, and those are allowed, so the memory still holds what it has to.
use Rattle.marks.specs.Passes.{Grows}
use Rattle.marks.proofs.rules.deal_with_all.Given as goal

abbrev pub invariant-loop : goal.invariant-loop
invariant-loop g l = Grows (g.R.Rules.follows l.rules) (g.R.Rules.marks l.rules) l.initial.work l.work

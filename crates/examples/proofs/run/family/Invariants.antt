-- There are no more differences than cases.
use Rattle.std.proofs.Common.{◌≤◌}
use Rattle.examples.proofs.run.family.Given as goal

abbrev pub invariant-loop-cases : goal.invariant-loop-cases
invariant-loop-cases g l = l.differences ≤ l.cases

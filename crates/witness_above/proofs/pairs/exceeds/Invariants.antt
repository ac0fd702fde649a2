-- `pairs::exceeds` meets its contract. Invariant: the nodes before y that row x has are in the line.
use Rattle.witness_above.proofs.Steps.{LinedBefore}
use Rattle.witness_above.proofs.pairs.exceeds.Given as goal

abbrev pub invariant-loop-y : goal.invariant-loop-y
invariant-loop-y l = LinedBefore l.work l.layout.marks l.layout.names l.x l.y

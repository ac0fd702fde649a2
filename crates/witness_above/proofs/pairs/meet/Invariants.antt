-- `pairs::meet` meets its contract. Invariant: of the nodes before y row x has those that the line has.
use Rattle.witness_above.proofs.Steps.{MetBefore}
use Rattle.witness_above.proofs.pairs.meet.Given as goal

abbrev pub invariant-loop-y : goal.invariant-loop-y
invariant-loop-y l = MetBefore l.layout.marks l.layout.names l.x l.y l.initial.work l.work

-- `pairs::clear_line` meets its contract. Invariant: the line has no node before y.
use Rattle.witness_above.proofs.Steps.{ClearedBefore}
use Rattle.witness_above.proofs.pairs.clear_line.Given as goal

abbrev pub invariant-loop-y : goal.invariant-loop-y
invariant-loop-y l = ClearedBefore l.layout.marks l.layout.names l.y l.initial.work l.work

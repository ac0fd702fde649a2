-- `joining::first_losing` meets its contract. Invariant: no node before x loses anything.
use Rattle.witness_above.proofs.Steps.{NoneBefore}
use Rattle.witness_above.proofs.joining.first_losing.Given as goal

abbrev pub invariant-loop-x : goal.invariant-loop-x
invariant-loop-x l = NoneBefore l.work l.layout l.name l.x

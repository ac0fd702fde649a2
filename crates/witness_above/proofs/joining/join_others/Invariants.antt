-- `joining::join_others` meets its contract. Invariant: the row is joined to the concepts of some nodes, and the pair asked for is held.
use Rattle.witness_above.specs.Left.{OthersJoined}
use Rattle.witness_above.proofs.joining.join_others.Given as goal

abbrev pub invariant-loop-x : goal.invariant-loop-x
invariant-loop-x l = OthersJoined l.layout l.asked.0 l.name.0 l.row l.count l.initial.rows l.rows l.initial.numbers l.numbers l.initial.work l.work l.written

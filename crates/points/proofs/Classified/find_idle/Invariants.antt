-- `find_idle` meets its contract: of the names before, the line has those whose axioms do not reach.
use Rattle.points.proofs.LosingNodes.{IdleBefore}
use Rattle.points.proofs.Classified.find_idle.Given as goal

abbrev pub invariant-loop-name : goal.invariant-loop-name
invariant-loop-name l = IdleBefore l.self l.lost l.role.0 l.root l.name l.idle

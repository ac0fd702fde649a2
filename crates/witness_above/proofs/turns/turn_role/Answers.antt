-- `turns::turn_role` meets its contract: a turn for an edge; else, once the pair asked for is lost, nothing.
use Rattle.witness_above.proofs.Going.{asked_room, went_edge}
use Rattle.witness_above.proofs.turns.turn_role.Goals as goal

pub holds-requires-clause-room : goal.holds-requires-clause-room
holds-requires-clause-room c = asked_room c.requires.go

pub returns-then-holds-clause-went : goal.returns-then-holds-clause-went
returns-then-holds-clause-went c = went_edge c.requires.edge c.turn_edge.ensures

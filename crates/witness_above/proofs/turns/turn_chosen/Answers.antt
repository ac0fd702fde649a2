-- `turns::turn_chosen` meets its contract: a turn for a chosen name; else, or once the pair asked for is lost, nothing.
use mathlib.Core.Path.{sym, ◌∙◌}
use Rattle.witness_above.proofs.Going.{asked_room, went_name}
use Rattle.witness_above.proofs.turns.turn_chosen.Goals as goal

pub holds-requires-clause-room : goal.holds-requires-clause-room
holds-requires-clause-room c = asked_room c.requires.go

pub returns-then-holds-clause-went : goal.returns-then-holds-clause-went
returns-then-holds-clause-went c = went_name (sym c.has_name.ensures ∙ c.if-has_name.true) c.turn_name.ensures

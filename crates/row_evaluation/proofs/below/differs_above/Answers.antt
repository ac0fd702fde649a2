-- `below::differs_above` meets its contract: the rows filled by either release, the last one asked of the name.
use Rattle.row_evaluation.proofs.DifferencesAbove.{first_room, second_room, not_first, by_second}
use Rattle.row_evaluation.proofs.below.differs_above.Goals as goal

pub holds-requires-clause-room : goal.holds-requires-clause-room
holds-requires-clause-room c = first_room c.requires c.fill_below.ensures c.fill_below-2.ensures

pub holds-requires-then-holds-clause-room : goal.holds-requires-then-holds-clause-room
holds-requires-then-holds-clause-room c = second_room c.requires c.fill_below.ensures c.fill_below-2.ensures

pub returns-then-holds : goal.returns-then-holds
returns-then-holds c = by_second c.requires c.fill_below.ensures c.fill_below-2.ensures c.holds.ensures c.holds-then-holds.ensures c.if-holds.true

pub returns-else-holds : goal.returns-else-holds
returns-else-holds c = not_first c.requires c.fill_below.ensures c.fill_below-2.ensures c.holds.ensures c.if-holds.false

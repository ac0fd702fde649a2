-- `above::differs_below` meets its contract: the rows filled by either release, the last one asked of the name.
use Rattle.row_evaluation.proofs.DifferencesBelow.{first_room, second_room, not_first, by_second}
use Rattle.row_evaluation.proofs.above.differs_below.Goals as goal

pub is_above-requires-clause-room : goal.is_above-requires-clause-room
is_above-requires-clause-room c = first_room c.requires c.fill_above.ensures c.fill_above-2.ensures

pub is_above-requires-then-is_above-clause-room : goal.is_above-requires-then-is_above-clause-room
is_above-requires-then-is_above-clause-room c = second_room c.requires c.fill_above.ensures c.fill_above-2.ensures

pub returns-then-is_above : goal.returns-then-is_above
returns-then-is_above c = by_second c.requires c.fill_above.ensures c.fill_above-2.ensures c.is_above.ensures c.is_above-then-is_above.ensures c.if-is_above.true

pub returns-else-is_above : goal.returns-else-is_above
returns-else-is_above c = not_first c.requires c.fill_above.ensures c.fill_above-2.ensures c.is_above.ensures c.if-is_above.false

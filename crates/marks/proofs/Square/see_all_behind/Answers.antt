-- Only hints change.
use Rattle.marks.proofs.Squares.{touches_room, hints_none, hints_further}
use Rattle.marks.proofs.Square.see_all_behind.Goals as goal

pub loop-x-init : goal.loop-x-init
loop-x-init c = hints_none

pub add_row-requires : goal.add_row-requires
add_row-requires c = record {
  room = (touches_room c.loop-x.invariant.touches c.requires.room.0, touches_room c.loop-x.invariant.touches c.requires.room.1);
  names_value = (c.requires.names_value, c.loop-x-test.true, c.loop-x-test.true);
}

pub loop-x-preserved : goal.loop-x-preserved
loop-x-preserved c = hints_further c.loop-x.invariant c.add_row.ensures.hints

pub returns-2 : goal.returns-2
returns-2 c = hints_further c.loop-x.invariant c.add_row.ensures.hints

-- The rows before x are turned, if the other square had no marks.
use native.Mathlib.Omega.{arith}
use Rattle.marks.proofs.Squares.{hints_none, hints_further, touches_room}
use Rattle.marks.proofs.Turning.{turned_none, turned_all}
use Rattle.marks.proofs.Square.turn.Goals as goal

pub loop-x-init : goal.loop-x-init
loop-x-init c = (λ u. turned_none c.requires.names_value.0 u, hints_none)

pub turn_row-requires : goal.turn_row-requires
turn_row-requires c = record {
  room = (touches_room c.loop-x.invariant.1.touches c.requires.room.0, touches_room c.loop-x.invariant.1.touches c.requires.room.1);
  names_value = (c.requires.names_value.0, c.requires.names_value.1, c.loop-x-test.true);
}

pub loop-x-preserved : goal.loop-x-preserved
loop-x-preserved c = (λ u. c.turn_row.ensures.turned (c.loop-x.invariant.0 u), hints_further c.loop-x.invariant.1 c.turn_row.ensures.hints)

pub returns-2 : goal.returns-2
returns-2 c = record {
  turned = λ u. turned_all (omega arith) (c.turn_row.ensures.turned (c.loop-x.invariant.0 u));
  hints = hints_further c.loop-x.invariant.1 c.turn_row.ensures.hints;
}

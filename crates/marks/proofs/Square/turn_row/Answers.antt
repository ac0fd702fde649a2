-- If the rows before x are turned, so is row x up to the column where the search goes on.
use native.Mathlib.Omega.{arith}
use Rattle.marks.proofs.Squares.{hints_none, hints_further, touches_room}
use Rattle.marks.proofs.Turning.{turned_start, turned_more, turned_end}
use Rattle.marks.proofs.Square.turn_row.Goals as goal

pub loop-y-init : goal.loop-y-init
loop-y-init c = (λ b. turned_start b, hints_none)

pub next_marked-requires : goal.next_marked-requires
next_marked-requires c = record { room = touches_room c.loop-y.invariant.1.touches c.requires.room.0; x_le_names = c.requires.names_value.2 }

pub mark-requires : goal.mark-requires
mark-requires c = record {
  room = touches_room c.loop-y.invariant.1.touches c.requires.room.1;
  x_le_names = (omega (arith, c.in-Some.ensures.inside, c.requires.names_value.0), omega (arith, c.requires.names_value));
}

pub loop-y-smaller : goal.loop-y-smaller
loop-y-smaller c = omega (arith, c.in-Some.ensures.after, c.in-Some.ensures.inside)

pub loop-y-preserved : goal.loop-y-preserved
loop-y-preserved c = (
  λ b. turned_more c.requires.names_value.1 c.requires.names_value.0 c.requires.names_value.2 c.in-Some.ensures c.mark.ensures (c.loop-y.invariant.0 b),
  hints_further c.loop-y.invariant.1 c.mark.ensures.hints,
)

pub returns : goal.returns
returns c = record { turned = λ b. turned_end c.in_default.ensures (c.loop-y.invariant.0 b); hints = c.loop-y.invariant.1 }

-- What row `to` has not is a mark that is new, and the whole row follows it.
use native.Mathlib.Omega.{arith}
use Rattle.marks.proofs.Passes.{pass_none, absorb_pass}
use Rattle.marks.proofs.Lines.{row_has, has_row}
use Rattle.marks.proofs.Squares.{frame_room}
use Rattle.marks.proofs.Square.absorb.Goals as goal

pub returns-then-seems_within : goal.returns-then-seems_within
returns-then-seems_within c = pass_none (c.seems_within.ensures c.if-seems_within.true)

pub next_outside-requires-clause-spans : goal.next_outside-requires-clause-spans
next_outside-requires-clause-spans c = record { inside = omega (arith, c.row.ensures.long) }

pub mark-requires : goal.mark-requires
mark-requires c = record { room = c.requires.room; x_le_names = (c.requires.from_le_names.1, c.in-Some.ensures.inside) }

pub hand_on-requires : goal.hand_on-requires
hand_on-requires c = record { room = frame_room c.mark.ensures.extends.frame c.requires.room; from_le_names = c.requires.from_le_names }

pub returns-in_default : goal.returns-in_default
returns-in_default c = pass_none (record { marked = λ y h m. has_row c.row.ensures h (c.in_default.ensures.each y (omega arith) h m) })

pub returns : goal.returns
returns c = absorb_pass c.in-Some.ensures.there.marked (λ m. c.in-Some.ensures.there.out (row_has c.row.ensures c.in-Some.ensures.inside m)) c.mark.ensures c.hand_on.ensures

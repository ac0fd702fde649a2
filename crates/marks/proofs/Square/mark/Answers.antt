-- The byte of the cell gets one bit more, and a bit that was there is told.
use Rattle.marks.proofs.Squares.{put_found, put_fresh}
use Rattle.marks.proofs.Square.mark.Goals as goal

pub returns-then-bit-eq1 : goal.returns-then-bit-eq1
returns-then-bit-eq1 c = put_found _ c.place-i.ensures c.if-bit-eq1.true

pub returns : goal.returns
returns c = put_fresh _ c.place-i.ensures c.requires.room c.requires.x_le_names.1 c.if-bit-eq1.false

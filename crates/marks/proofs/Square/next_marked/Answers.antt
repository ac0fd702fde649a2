-- The bits of the row are its marks.
use Rattle.marks.proofs.Scans.{row_lies, next_of_row}
use Rattle.marks.proofs.Square.next_marked.Goals as goal

pub next_bit-requires : goal.next_bit-requires
next_bit-requires c = row_lies c.requires.room c.requires.x_le_names c.place.ensures

pub returns : goal.returns
returns c = next_of_row c.place.ensures _ _ _ c.next_bit.ensures

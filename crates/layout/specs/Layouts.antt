-- What a comparison of two releases reads: signature bytes g, or what was found of them (Findings), the tables of the two, and three
-- squares in the memory w. Where all of these travel together they are a Given.
--   first_square l, second_square l     the squares of the inclusions of the first and the second release
--   mark_square l                      the square of the marks of the comparison
--   below_square l                     the square of the second release's inclusions, turned
--   chosen l g                        the signature that the bytes g give
--   Setting given w                   the squares are where the functions of a comparison read and write
use Rattle.std.specs.Prelude.{List, ℕ}
use Rattle.el.specs.Signatures.{Signature}
use Rattle.signature.specs.Bytes.{signature_of}
use Rattle.marks.specs.declared.Square.{Square}
use Rattle.marks.specs.Squares.{Room, Area, behind}
use Rattle.layout.specs.declared.Layout.{Layout}
use Rattle.layout.specs.declared.Given.{Given}

abbrev pub first_square : Layout → Square
first_square l = record { base = l.first; names = l.names }

abbrev pub second_square : Layout → Square
second_square l = record { base = l.second; names = l.names }

abbrev pub mark_square : Layout → Square
mark_square l = record { base = l.marks; names = l.names }

-- the inclusions of the second release with rows and columns exchanged, behind the rows of its square
abbrev pub below_square : Layout → Square
below_square l = behind (second_square l) 1

abbrev pub chosen : Layout → List ℕ → Signature
chosen l g = signature_of l.names l.roles g

-- the memory lent for the three squares is there
pub record Areas (l : Layout) (w : List ℕ) : Type 0 where
  pub first : Area (first_square l) w
  pub second : Area (second_square l) w
  pub marks : Area (mark_square l) w

pub record Setting (given : Given) (w : List ℕ) : Type 0 where
  pub first : Room (first_square given.layout) w
  pub second : Room (second_square given.layout) w
  pub marks : Room (mark_square given.layout) w
  pub areas : Areas given.layout w

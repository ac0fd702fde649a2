-- What both kinds of marks of a comparison ask.
--   Comparing s t given w     two accepted releases s, t over the same names, with the tables given and the squares of their inclusions,
--                             and a square without marks
use Rattle.std.specs.Prelude.{◌≡◌, List, ℕ, ◌+◌, ◌≤◌}
use Rattle.release.specs.Files.{names_of}
use Rattle.release.specs.Tables.{Release}
use Rattle.marks.specs.Squares.{span, Room, Unmarked}
use Rattle.classification.specs.Inclusions.{Inclusions}
use Rattle.layout.specs.declared.Given.{Given}
use Rattle.layout.specs.Layouts.{first_square, second_square, mark_square, Areas}

pub record Comparing (s t : List ℕ) (given : Given) (w : List ℕ) : Type 0 where
  pub first_release : Release s given.first.table.now
  pub second_release : Release t given.second.table.now
  pub first_names : given.layout.names ≡ names_of s
  pub second_names : given.layout.names ≡ names_of t
  pub first_room : Room (first_square given.layout) w
  pub second_room : Room (second_square given.layout) w
  pub room : Room (mark_square given.layout) w
  pub areas : Areas given.layout w
  pub first_inclusions : Inclusions s (first_square given.layout) w
  pub second_inclusions : Inclusions t (second_square given.layout) w
  pub unmarked : Unmarked (mark_square given.layout) w
  pub first_apart : given.layout.first + span given.layout.names ≤ given.layout.marks
  pub second_apart : given.layout.second + span given.layout.names ≤ given.layout.marks

-- Grids: rows of marks, a row for each root that a concept can have, and in it a place for each node that there can be or for each root of
-- another concept. A grid is one line of columns, row after row.
--   most_roots, most_nodes   the rows of a grid, and the places of a row: all nodes, or all roots
--   root_bytes               the bytes of a line of all roots that a concept can have
--   cell c k y               the column of the line that is the place y of row k, where a row has c places
--   Set w k y, Pair w j k    the place is marked, in a grid of nodes; in one of pairs of roots
--   Blank w                  no place is
--   Adds c k e P Q w v       of the places below e, row k gained just those of which P holds; Q holds of those that it does not have
use Rattle.std.specs.Prelude.{◌≡◌, ◌⊎◌, List, ℕ, ◌+◌, ◌*◌, ◌<◌}
use Rattle.marks.specs.Lines.{Has, Empty}
use Rattle.points.specs.declared.Grid.{Grid}
use Rattle.points.specs.declared.Pairs.{Pairs}

abbrev pub most_roots : ℕ
most_roots = 128

abbrev pub most_nodes : ℕ
most_nodes = 1024

abbrev pub root_bytes : ℕ
root_bytes = 16

unfoldable pub cell : ℕ → ℕ → ℕ → ℕ
cell c k y = k * c + y

abbrev pub SetIn : ℕ → List ℕ → ℕ → ℕ → Type 0
SetIn c w k y = Has w (cell c k y)

abbrev pub Set : Grid → ℕ → ℕ → Type 0
Set w k y = SetIn most_nodes w.rows k y

abbrev pub Pair : Pairs → ℕ → ℕ → Type 0
Pair w j k = SetIn most_roots w.rows j k

abbrev pub Blank : Grid → Type 0
Blank w = Empty w.rows

pub record Adds (c k e : ℕ) (P Q : ℕ → Type 0) (w v : List ℕ) : Type 0 where
  pub old : (a b : ℕ) → SetIn c w a b → SetIn c v a b
  pub all : (y : ℕ) → y < e → SetIn c v k y ⊎ Q y
  pub only : (a b : ℕ) → b < c → SetIn c v a b → SetIn c w a b ⊎ ((a ≡ k) × ((b < e) × P b))

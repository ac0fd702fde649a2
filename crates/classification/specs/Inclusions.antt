-- The square of inclusions of a release: rows and columns are the nodes, the names below n, then ⊤.
--   node_at n k             the node of row or column k: the name k, or ⊤ for n
--   says q w               the marks of the square q in the memory w as a test on nodes
--   Inclusions s q w       the cell (x, y) of q is marked exactly when x ⊑ y is derivable from the release s
--   Classified s q w v     the memory w became v: q holds the inclusions, and all else is as before
use Rattle.std.specs.Prelude.{◌≡◌, Bool, List, ℕ, ◌%◌, ◌≤◌, eqb, get_or}
use Rattle.el.specs.Lists.{pick}
use Rattle.el.specs.Concepts.{Node, everything, named}
use Rattle.el.proofs.Classification.{Included}
use Rattle.release.specs.Files.{names_of, content_of}
use Rattle.release.specs.Tables.{Release}
use Rattle.release.specs.Entries.{node_number}
use Rattle.release.specs.declared.table.Table.{Table}
use Rattle.marks.specs.declared.Square.{Square}
use Rattle.marks.specs.Squares.{bit, place, Area, Marked, Unmarked, Frame}

unfoldable pub node_at : ℕ → ℕ → Node
node_at n k = pick (eqb k n) everything (named k)

unfoldable pub says : Square → List ℕ → Node → Node → Bool
says q w x y = eqb (bit (get_or w (place q (node_number q.names x) (node_number q.names y)) 0) (node_number q.names y % 8)) 1

-- what classifying asks: an accepted release and its table, and a square without marks for its nodes
pub record Unclassified (s : List ℕ) (t : Table) (q : Square) (w : List ℕ) : Type 0 where
  pub release : Release s t
  pub names : q.names ≡ names_of s
  pub area : Area q w
  pub unmarked : Unmarked q w

pub record Inclusions (s : List ℕ) (q : Square) (w : List ℕ) : Type 0 where
  pub sound : (x y : ℕ) → x ≤ q.names → y ≤ q.names → Marked q w x y → Included (content_of s) (node_at q.names x) (node_at q.names y)
  pub complete : (x y : ℕ) → x ≤ q.names → y ≤ q.names → Included (content_of s) (node_at q.names x) (node_at q.names y) → Marked q w x y

pub record Classified (s : List ℕ) (q : Square) (w v : List ℕ) : Type 0 where
  pub frame : Frame q w v
  pub inclusions : Inclusions s q v

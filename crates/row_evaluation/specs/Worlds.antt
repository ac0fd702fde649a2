-- A release as the evaluation of rows has it.
--   cells_of E            the bytes of the rows of an evaluation
--   World s t q w        an accepted release, its table, and the square of the inclusions between its nodes
--   WorldOf E w          those of an evaluation
--   content_in E         what its release says
--   node_point n x        the concept of node x
--   Below s ys n j x     node x lies below row j
use Rattle.std.specs.Prelude.{◌≡◌, List, ℕ}
use Rattle.el.specs.Axioms.{Terminology}
use Rattle.el.specs.Concepts.{Concept, concept_of}
use Rattle.el.specs.Derivability.{Derives}
use Rattle.concept_rows.specs.Rows.{concept_of_row}
use Rattle.concept_rows.specs.Lent.{row_at}
use Rattle.release.specs.Files.{names_of, content_of}
use Rattle.release.specs.Tables.{Release}
use Rattle.release.specs.declared.table.Table.{Table}
use Rattle.marks.specs.declared.Square.{Square}
use Rattle.marks.specs.Squares.{Room}
use Rattle.classification.specs.Inclusions.{node_at, Inclusions}
use Rattle.row_evaluation.specs.declared.Evaluation.{Evaluation}
use Rattle.row_evaluation.specs.declared.cells.Cells.{Cells}

abbrev pub cells_of : Evaluation → Cells
cells_of E = record { base = E.base; names = E.square.names }

pub record World (s : List ℕ) (t : Table) (q : Square) (w : List ℕ) : Type 0 where
  pub release : Release s t
  pub names : q.names ≡ names_of s
  pub room : Room q w
  pub inclusions : Inclusions s q w

abbrev pub WorldOf : Evaluation → List ℕ → Type 0
WorldOf E w = World E.terminology.file.now E.terminology.table.now E.square w

abbrev pub content_in : Evaluation → Terminology
content_in E = content_of E.terminology.file.now

abbrev pub node_point : ℕ → ℕ → Concept
node_point n x = concept_of (node_at n x)

abbrev pub Below : List ℕ → List ℕ → ℕ → ℕ → ℕ → Type 0
Below s ys n j x = Derives (content_of s) (node_point n x) (concept_of_row (row_at ys) j)

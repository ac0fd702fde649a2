-- What backward marks mean.
--   column_at n k                 the column k: the name k, or nothing for n
--   BackwardMarked g s t l v     a cell is marked exactly when some signature concept lies below its row by the first release s and
--                                not below its column by the second release t; where it is not, all that lies below is kept
--   Backwarded g s t l w v       the memory w became v: its square of marks holds that, and all else is as before
--   BackwardFrom given w v       so it is for all signatures of which this is handed on
use Rattle.std.specs.Prelude.{◌≡◌, true, List, ℕ, ◌≤◌, eqb}
use Rattle.el.specs.Lists.{pick}
use Rattle.el.specs.Concepts.{Concept, named, concept_of}
use Rattle.el.specs.Derivability.{Derives}
use Rattle.el.specs.Signatures.{is_over}
use Rattle.el.specs.Answers.{Column, nothing, node}
use Rattle.el.proofs.BackwardMarks.{Below, LostBelow}
use Rattle.release.specs.Files.{content_of}
use Rattle.marks.specs.Squares.{Marked, Frame}
use Rattle.classification.specs.Inclusions.{node_at}
use Rattle.layout.specs.declared.Given.{Given}
use Rattle.layout.specs.declared.Layout.{Layout}
use Rattle.layout.specs.Layouts.{mark_square, chosen}
use Rattle.layout.specs.declared.edges.Position.TheVariants as position
use Rattle.layout.specs.Findings.{Handed}

unfoldable pub column_at : ℕ → ℕ → Column
column_at n k = pick (eqb k n) nothing (node (named k))

pub record BackwardMarked (g s t : List ℕ) (l : Layout) (v : List ℕ) : Type 0 where
  pub sound : (x y : ℕ) → x ≤ l.names → y ≤ l.names → Marked (mark_square l) v x y → LostBelow (chosen l g) (content_of s) (content_of t) (node_at l.names x) (column_at l.names y)
  pub kept : (x y : ℕ) → x ≤ l.names → y ≤ l.names → (Marked (mark_square l) v x y → ⊥) → (c : Concept) → is_over (chosen l g) c ≡ true
      → Derives (content_of s) c (concept_of (node_at l.names x)) → Below (content_of t) c (column_at l.names y)

pub record Backwarded (g s t : List ℕ) (l : Layout) (w v : List ℕ) : Type 0 where
  pub frame : Frame (mark_square l) w v
  pub marked : BackwardMarked g s t l v

pub record BackwardFrom (given : Given) (w v : List ℕ) : Type 0 where
  pub of_signature : (g : List ℕ) → Handed position.Below g given → Backwarded g given.first.file.now given.second.file.now given.layout w v

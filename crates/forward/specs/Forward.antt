-- What forward marks mean.
--   ForwardMarked g s t l v     a cell is marked exactly when some signature concept lies above its row by the first release s and
--                               not above its column by the second release t; where it is not, all that lies above is kept
--   Forwarded g s t l w v       the memory w became v: its square of marks holds that, and all else is as before
--   ForwardFrom given w v       so it is for all releases with the tables given whose inclusions w holds, and all signatures of which
--                               the given names are handed on, and the edges with the roles above their own
use Rattle.std.specs.Prelude.{◌≡◌, true, List, ℕ, ◌≤◌}
use Rattle.el.specs.Concepts.{Concept, concept_of}
use Rattle.el.specs.Derivability.{Derives}
use Rattle.el.specs.Signatures.{is_over}
use Rattle.el.proofs.ForwardMarks.{LostAbove}
use Rattle.release.specs.Files.{content_of}
use Rattle.marks.specs.Squares.{Marked, Frame}
use Rattle.classification.specs.Inclusions.{node_at}
use Rattle.layout.specs.declared.Layout.{Layout}
use Rattle.layout.specs.declared.Given.{Given}
use Rattle.layout.specs.declared.edges.Position.TheVariants.{Above}
use Rattle.layout.specs.Layouts.{mark_square, chosen}
use Rattle.layout.specs.Findings.{Handed}
use Rattle.layout.specs.Comparing.{Comparing}

pub record ForwardMarked (g s t : List ℕ) (l : Layout) (v : List ℕ) : Type 0 where
  pub sound : (x y : ℕ) → x ≤ l.names → y ≤ l.names → Marked (mark_square l) v x y → LostAbove (chosen l g) (content_of s) (content_of t) (node_at l.names x) (node_at l.names y)
  pub kept : (x y : ℕ) → x ≤ l.names → y ≤ l.names → (Marked (mark_square l) v x y → ⊥) → (d : Concept) → is_over (chosen l g) d ≡ true
      → Derives (content_of s) (concept_of (node_at l.names x)) d → Derives (content_of t) (concept_of (node_at l.names y)) d

pub record Forwarded (g s t : List ℕ) (l : Layout) (w v : List ℕ) : Type 0 where
  pub frame : Frame (mark_square l) w v
  pub marked : ForwardMarked g s t l v

pub record ForwardFrom (given : Given) (w v : List ℕ) : Type 0 where
  pub of_releases : (g s t : List ℕ) → Handed Above g given → Comparing s t given w → Forwarded g s t given.layout w v

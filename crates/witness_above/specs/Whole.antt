-- Writing a left report from the start to its end.
--   ToStart, Started              no row is written, and the concept of each node is ⊤; the pairs held are those that the pair asked for leads to
--   ToFind, NameDiffers           a chosen name that shows the difference by itself
--   ToWrite G x ys ps w           what writing asks: room for the rows, a number for each node, all 0, and bytes of the pairs and the line, all 0,
--                                 where the marks of the comparison are, behind the squares
--   LeftWritten                   r rows were written, and if the name is a left witness the last shows it; the others are as before
use Rattle.std.specs.Prelude.{◌≡◌, true, List, ℕ, ◌*◌, ◌≤◌, ◌<◌, length, get_or}
use Rattle.el.specs.Axioms.{Terminology}
use Rattle.el.specs.Signatures.{Signature, LeftWitness}
use Rattle.el.specs.Terminologies.{Comparable}
use Rattle.concept_rows.specs.Lent.{rows_needed, Last}
use Rattle.release.specs.Files.{content_of}
use Rattle.marks.specs.Squares.{Room, Marked}
use Rattle.layout.specs.declared.Given.{Given}
use Rattle.layout.specs.Layouts.{first_square, second_square, chosen}
use Rattle.layout.specs.declared.edges.Position.TheVariants.{Above}
use Rattle.layout.specs.Findings.{Handed}
use Rattle.row_evaluation.specs.Cells.{cell, Holds}
use Rattle.witness_above.specs.Left.{State, LeftReport, FirstWorld, SecondWorld, Edge, LeadsOn}
use Rattle.witness_above.specs.Reach.{edge_row, ToReach, Blank}
use Rattle.witness_above.specs.Passes.{Chosen}

pub record ToStart (G : Given) (asked : ℕ) (ys ps w : List ℕ) : Type 0 where
  pub rows : 3 * rows_needed G.layout.names ≤ length ys
  pub numbers : G.layout.names < length ps
  pub zero : (i : ℕ) → get_or ps i 0 ≡ 0
  pub reach : ToReach G w
  pub blank : Blank G.layout.marks G.layout.names w
  pub asked_in : asked ≤ G.layout.names

pub record Started (G : Given) (asked : ℕ) (ys ps w v : List ℕ) : Type 0 where
  pub state : State G.layout 0 ys ps v
  pub long : length v ≡ length w
  pub before : (p : ℕ) → p < G.layout.marks → get_or v p 0 ≡ get_or w p 0
  pub beyond : (p : ℕ) → cell G.layout.marks G.layout.names (edge_row G.layout.names G.layout.names) 0 ≤ p → get_or v p 0 ≡ get_or w p 0
  pub asked_held : Holds v G.layout.marks G.layout.names asked asked
  pub leads : (s t : List ℕ) → FirstWorld s G v → SecondWorld t G v → (x r : ℕ) → Edge G x r → LeadsOn G v s t x r
  pub report : (sig : Signature) (t u : Terminology) → LeftReport sig t u G.layout 0 ys ps v v

pub record ToWrite (G : Given) (x : ℕ) (ys ps w : List ℕ) : Type 0 where
  pub start : ToStart G x ys ps w
  pub name : x < G.layout.names

-- a chosen name lies above x by the first release and not by the second
pub record NameDiffers (G : Given) (w : List ℕ) (x b : ℕ) : Type 0 where
  pub is_name : b < G.layout.names
  pub is_chosen : Chosen G b
  pub above : Marked (first_square G.layout) w x b
  pub not_second : Marked (second_square G.layout) w x b → ⊥

pub record ToFind (G : Given) (w : List ℕ) (x : ℕ) : Type 0 where
  pub first_room : Room (first_square G.layout) w
  pub second_room : Room (second_square G.layout) w
  pub node : x ≤ G.layout.names

pub record LeftWritten (G : Given) (x : ℕ) (ys zs w v : List ℕ) (r : ℕ) : Type 0 where
  pub few : r ≤ rows_needed G.layout.names
  pub long : length v ≡ length w
  pub rows_long : length zs ≡ length ys
  pub beyond : (p : ℕ) → cell G.layout.marks G.layout.names (edge_row G.layout.names G.layout.names) 0 ≤ p → get_or v p 0 ≡ get_or w p 0
  pub past : (p : ℕ) → 3 * r ≤ p → get_or zs p 0 ≡ get_or ys p 0
  pub shows : (g s t : List ℕ) (side : ℕ) → FirstWorld s G w → SecondWorld t G w → Handed Above g G → Comparable G.layout.names (chosen G.layout g) (content_of s) (content_of t)
      → side ≡ 1 → (chosen G.layout g).has_name x ≡ true → LeftWitness (chosen G.layout g) (content_of s) (content_of t) x
      → Last (chosen G.layout g) (content_of s) (content_of t) side x zs r

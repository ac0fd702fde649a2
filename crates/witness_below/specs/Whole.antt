-- Writing a right report from the start to its end.
--   RightShown given x zs r                if the name x is a right witness, over any signature whose names and edges are given, the last of r
--                                          rows shows it
--   ToWriteArranged given x ys ps w        what writing asks of memory that is arranged for it: no pair is asked for yet
--   ArrangedWritten given x ys zs w v r    r rows were written, and so it is; the others are as before
use Rattle.std.specs.Prelude.{◌≡◌, true, List, ℕ, suc, ◌+◌, ◌*◌, ◌≤◌, ◌<◌, length, get_or}
use Rattle.el.specs.Signatures.{RightWitness}
use Rattle.concept_rows.specs.Lent.{rows_needed, Last}
use Rattle.release.specs.Files.{content_of}
use Rattle.layout.specs.declared.Given.{Given}
use Rattle.layout.specs.Layouts.{chosen}
use Rattle.layout.specs.declared.edges.Position.TheVariants.{Below}
use Rattle.layout.specs.Findings.{Handed}
use Rattle.witness_below.specs.Tasks.{Ready}

pub record RightShown (given : Given) (x : ℕ) (zs : List ℕ) (r : ℕ) : Type 0 where
  pub of_signature : (g : List ℕ) → Handed Below g given → (chosen given.layout g).has_name x ≡ true
      → RightWitness (chosen given.layout g) (content_of given.first.file.now) (content_of given.second.file.now) x
      → Last (chosen given.layout g) (content_of given.first.file.now) (content_of given.second.file.now) 2 x zs r

pub record ToWriteArranged (given : Given) (x : ℕ) (ys ps w : List ℕ) : Type 0 where
  pub ready : Ready given w
  pub rows : 3 * rows_needed given.layout.names ≤ length ys
  pub numbers : given.layout.names < length ps
  pub name : x < given.layout.names
  pub zero : (p : ℕ) → given.layout.marks ≤ p → p < given.layout.marks + 3 * (suc given.layout.names * suc given.layout.names) → get_or w p 0 ≡ 0

pub record ArrangedWritten (given : Given) (x : ℕ) (ys zs w v : List ℕ) (r : ℕ) : Type 0 where
  pub few : r ≤ rows_needed given.layout.names
  pub long : length v ≡ length w
  pub rows_long : length zs ≡ length ys
  pub before : (p : ℕ) → p < given.layout.marks → get_or v p 0 ≡ get_or w p 0
  pub beyond : (p : ℕ) → given.layout.marks + 3 * (suc given.layout.names * suc given.layout.names) ≤ p → get_or v p 0 ≡ get_or w p 0
  pub past : (p : ℕ) → 3 * r ≤ p → get_or zs p 0 ≡ get_or ys p 0
  pub shows : RightShown given x zs r

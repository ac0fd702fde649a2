-- Laws of what both kinds of marks ask.
--   rowed                            a table has its rows
--   comparable                       the two terminologies and the signature are over the names below n
--   setting, first_shaped, ..        what the functions read is in its place
--   first_table_by, second_table_by  the tables of inclusions, at every memory on the way
use mathlib.Core.Path.{refl}
use mathlib.Core.List.{List}
use mathlib.Core.Logic.{inl}
use Prim.Native.Nat.{ℕ}
use borrow.Author.Tests.{ltb-true}
use lib.Dec.{ltb}
use Rattle.el.proofs.Tests.{and_left}
use Rattle.el.specs.Terminologies.{Comparable, NamesBelow}
use Rattle.el.proofs.Classification.{InclusionTable}
use Rattle.release.specs.declared.table.Table.{Table}
use Rattle.release.specs.Files.{content_of}
use Rattle.release.specs.Tables.{Shaped}
use Rattle.release.proofs.Linked as linked
use Rattle.marks.specs.Squares.{Frame}
use Rattle.classification.proofs.AxiomRows.{formed, ranges}
use Rattle.classification.proofs.Meaning.{inclusions_stay, table_by}
use Rattle.layout.specs.declared.Layout.{Layout}
use Rattle.layout.specs.declared.Given.{Given}
use Rattle.layout.specs.Tables.{Rowed}
use Rattle.layout.specs.Layouts.{mark_square, chosen, Setting}
use Rattle.layout.specs.Comparing.{Comparing}

pub chosen_below : (l : Layout) (g : List ℕ) → NamesBelow l.names (chosen l g)
chosen_below l g x h = ltb-true x l.names (and_left (ltb x l.names) _ h)

pub rowed : {n : ℕ} {s : List ℕ} {t : Table} → Shaped n s t → Rowed n t
rowed h = record { rows = h.rows; role = h.role; filler = h.filler }

module _ {s t : List ℕ} {given : Given} {w : List ℕ} (c : Comparing s t given w) where
  abbrev pub l : Layout
  l = given.layout

  pub comparable : (g : List ℕ) → Comparable l.names (chosen l g) (content_of s) (content_of t)
  comparable g = record {
    names_in = chosen_below l g;
    first_formed = formed c.first_release c.first_names;
    second_formed = formed c.second_release c.second_names;
    first_terms = linked.normalised s c.first_release.accepted;
    second_terms = linked.normalised t c.second_release.accepted;
  }

  pub first_shaped : Shaped l.names s given.first.table.now
  first_shaped = ranges c.first_release c.first_names

  pub second_shaped : Shaped l.names t given.second.table.now
  second_shaped = ranges c.second_release c.second_names

  pub setting : Setting given w
  setting = record { first = c.first_room; second = c.second_room; marks = c.room; areas = c.areas }

  -- while the marks change
  module _ {v : List ℕ} (f : Frame (mark_square l) w v) where
    abbrev pub first_table_by : InclusionTable l.names (content_of s)
    first_table_by = table_by (inclusions_stay f (inl c.first_apart) c.first_inclusions) refl

    abbrev pub second_table_by : InclusionTable l.names (content_of t)
    second_table_by = table_by (inclusions_stay f (inl c.second_apart) c.second_inclusions) refl

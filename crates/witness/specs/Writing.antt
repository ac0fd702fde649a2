-- The steps of the station, once nothing is refused: releases r, signature bytes g, lent rows ys, which become zs, and the memory w, which
-- becomes v. The sets of four squares are those of a comparison.
--   ToAsk, ReportFound         whether the name that x asks for is reported on its side, by memory that is prepared and left as it was
--   Kept                       what is as before where k rows were written
--   ToShow                     what showing a concept asks
--   ToWriteSide, SideWritten   rows written of a reported name, in prepared memory: the last shows the difference on that side
--   WrittenIfReported          rows written where the name a is reported on the side, else none
--   RowsShown                  that, and the memory is 0 at the end as far as it is needed
use Rattle.std.specs.Prelude.{◌≡◌, Bool, true, List, ℕ, ◌*◌, ◌≤◌, ◌<◌, length, get_or}
use Rattle.el.proofs.Tests.{Tells}
use Rattle.concept_rows.specs.Lent.{rows_needed}
use Rattle.marks.specs.Memory.{size}
use Rattle.comparison.specs.Compared.{Given, Ready}
use Rattle.comparison.specs.declared.Releases.{Releases}
use Rattle.witness.specs.declared.asked.Asked.{Asked}
use Rattle.witness.specs.Asked.{side_number, signature_in, ReportedBy, LastShowsBy}

pub record ToAsk (g : List ℕ) (r : Releases) (w : List ℕ) (x : Asked) : Type 0 where
  pub given : Given g r w
  pub ready : Ready r w
  pub chosen : (signature_in g r).has_name x.name.0 ≡ true

pub record ReportFound (g : List ℕ) (r : Releases) (w v : List ℕ) (x : Asked) (yes : Bool) : Type 0 where
  pub same : v ≡ w
  pub reported : Tells yes (ReportedBy g r (side_number x.side) x.name.0)

pub record Kept (n : ℕ) (ys zs w v : List ℕ) (k : ℕ) : Type 0 where
  pub few : k ≤ rows_needed n
  pub rows_long : length zs ≡ length ys
  pub rows_past : (p : ℕ) → 3 * k ≤ p → get_or zs p 0 ≡ get_or ys p 0
  pub long : length v ≡ length w
  pub past : (p : ℕ) → 4 * size n ≤ p → get_or v p 0 ≡ get_or w p 0

pub record ToShow (g : List ℕ) (r : Releases) (ys w : List ℕ) : Type 0 where
  pub given : Given g r w
  pub rows : 3 * rows_needed r.names ≤ length ys

pub record ToWriteSide (g : List ℕ) (r : Releases) (ys w : List ℕ) (x : Asked) : Type 0 where
  pub show : ToShow g r ys w
  pub ready : Ready r w
  pub chosen : (signature_in g r).has_name x.name.0 ≡ true

pub record SideWritten (g : List ℕ) (r : Releases) (ys zs w v : List ℕ) (x : Asked) (k : ℕ) : Type 0 where
  pub kept : Kept r.names ys zs w v k
  pub shows : ReportedBy g r (side_number x.side) x.name.0 → LastShowsBy g r (side_number x.side) x.name.0 zs k

pub record WrittenIfReported (g : List ℕ) (r : Releases) (side a : ℕ) (ys zs w v : List ℕ) (k : ℕ) : Type 0 where
  pub kept : Kept r.names ys zs w v k
  pub some : 1 ≤ k → ReportedBy g r side a
  pub shows : ReportedBy g r side a → LastShowsBy g r side a zs k

pub record RowsShown (g : List ℕ) (r : Releases) (side a : ℕ) (ys zs w v : List ℕ) (k : ℕ) : Type 0 where
  pub written : WrittenIfReported g r side a ys zs w v k
  pub zero : (p : ℕ) → p < 4 * size r.names → get_or v p 0 ≡ 0

-- A sheet without a word of rules, whose shares are rounded down: by rule 1 the call promises this.
--   row_of g bs               the row of the names' signature bytes g and result bytes bs
--   RowDown, sheet_down, FilledDown, SaysDown     a row, the answer, the rows that are lent, and the promise
use Rattle.std.specs.Prelude.{◌≡◌, List, ◌++◌, ℕ, ◌<◌, length, get_or, take, drop, replicate, Result, Ok, Err}
use Rattle.el.specs.Lists.{count}
use Rattle.el.specs.Comparison.{on_left, on_right, is_reported, AreBytes}
use Rattle.release.specs.Files.{names_of, roles_of, content_of}
use Rattle.release.specs.Readings.{checked}
use Rattle.release.specs.Refusals.{Numbers, told}
use Rattle.demands.specs.Inputs.{chosen}
use Rattle.meanings.specs.declared.Compared.{Compared}
use Rattle.meanings.specs.Comparing.{work_length, agreed, and_then}
use Rattle.branches.specs.declared.refusals.SheetRefusal.{SheetRefusal}
use Rattle.branches.specs.declared.row.Row.{Row}
use Rattle.branches.specs.Refusals.{sheet_refusal}
use Rattle.branches.specs.Shares.{share_down}
use Rattle.branches.specs.Rows.{is_chosen}
use Rattle.branches.specs.Sheets.{signature_at, lent_sheet, no_row}

abbrev pub row_of : List ℕ → List ℕ → Row
row_of g bs = record {
  chosen = count is_chosen g;
  left = count on_left bs;
  right = count on_right bs;
  share = share_down (count is_reported bs) (count is_chosen g);
}

pub record RowDown (s t g : List ℕ) (r : Row) : Type 0 where
  pub bytes : List ℕ
  pub are_bytes : AreBytes (names_of s) (chosen s g) (content_of s) (content_of t) bytes
  pub is : r ≡ row_of (take (names_of s) g) bytes

unfoldable pub sheet_down : List ℕ → List ℕ → List ℕ → ℕ → ℕ → ℕ → Result Compared Numbers
sheet_down s t gs q rows w = and_then (agreed (checked s) (checked t)) (lent_sheet gs q rows w)

pub record FilledDown (s t gs : List ℕ) (q : ℕ) (ys zs : List Row) : Type 0 where
  pub filled : List Row
  pub long : length filled ≡ q
  pub each : (i : ℕ) → i < q → RowDown s t (signature_at (names_of s) (roles_of s) gs i) (get_or filled i no_row)
  pub rows : zs ≡ filled ++ drop q ys

pub record SaysDown (s t gs : List ℕ) (q : ℕ) (ys zs : List Row) (w v : List ℕ) (r : Result Compared SheetRefusal) : Type 0 where
  pub answer : told sheet_refusal r ≡ sheet_down s t gs q (length ys) (length w)
  pub refused_rows : {k : SheetRefusal} → r ≡ Err k → zs ≡ ys
  pub refused_work : {k : SheetRefusal} → r ≡ Err k → v ≡ w
  pub accepted_rows : {c : Compared} → r ≡ Ok c → FilledDown s t gs q ys zs
  pub accepted_work : {c : Compared} → r ≡ Ok c → v ≡ replicate (work_length (names_of s)) 0 ++ drop (work_length (names_of s)) w

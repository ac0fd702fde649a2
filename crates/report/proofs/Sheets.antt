-- The lines of a sheet, one row more at a time, and how many there are.
use mathlib.Core.Path.{◌≡◌, sym, ap, ◌∙◌}
use mathlib.Core.List.{List, [], ◌∷◌, ◌++◌}
use Prim.Native.Nat.{ℕ, suc, ◌+◌, ◌≤◌, ◌<◌, min}
use native.Mathlib.Omega.{arith}
use borrow.Author.Tests.{lt-ltb, le-ltb}
use mathlib.Core.Logic.{⊎_elim}
use lib.ListN.{length, take, get_or}
use Rattle.std.proofs.Common.{append_assoc, length-take-le}
use Rattle.std.proofs.lemmas.Bool.{cases_lt}
use Rattle.std.proofs.lemmas.List.{append-nil, take_more}
use Rattle.branches.specs.Sheets.{most_branches, no_row}
use Rattle.branches.specs.declared.row.Row.{Row}
use Rattle.report.specs.Sheets.{row_line, row_lines, branches_of}

row_lines_append : (i : ℕ) (rs : List Row) (r : Row) → row_lines i (rs ++ (r ∷ [])) ≡ row_lines i rs ++ row_line (i + length rs) r
unfolding row_lines
row_lines_append i [] r = let e : i + 0 ≡ i = omega arith in rw e (append-nil (row_line i r))
row_lines_append i (s ∷ rs) r =
    let e : suc i + length rs ≡ i + suc (length rs) = omega arith in
    ap (λ (l : List ℕ). row_line i s ++ l) (row_lines_append (suc i) rs r ∙ ap (λ (k : ℕ). row_lines (suc i) rs ++ row_line k r) e)
    ∙ sym (append_assoc (row_line i s) (row_lines (suc i) rs) (row_line (i + suc (length rs)) r))

pub rows_more : (rs : List Row) (i : ℕ) → i < length rs → row_lines 0 (take i rs) ++ row_line i (get_or rs i no_row) ≡ row_lines 0 (take (i + 1) rs)
rows_more rs i h =
    let long : 0 + length (take i rs) ≡ i = omega (arith, length-take-le i rs) in
    sym (ap (λ (l : List Row). row_lines 0 l) (take_more rs i no_row h) ∙ row_lines_append 0 (take i rs) (get_or rs i no_row)
    ∙ ap (λ (k : ℕ). row_lines 0 (take i rs) ++ row_line k (get_or rs i no_row)) long)

-- how many rows are told
pub most_branches_lem : (q : ℕ) → most_branches < q → most_branches ≡ branches_of q
unfolding branches_of
most_branches_lem q h = rw (lt-ltb most_branches q h)

pub branches_told : (q k : ℕ) → k ≡ min q most_branches → k ≡ branches_of q
unfolding branches_of
branches_told q k e = ⊎_elim many few (cases_lt most_branches q)
  where
    many : most_branches < q → k ≡ branches_of q
    many h = rw (← most_branches_lem q h) (omega arith)

    few : q ≤ most_branches → k ≡ branches_of q
    few h = rw (le-ltb most_branches q h, branches_of) (omega arith)

-- Each row of an accepted sheet tells what a single comparison would: both have the bytes of the definition, and there is only one row of
-- such bytes by a rule.
use mathlib.Core.Path.{◌≡◌, sym, ap, ◌∙◌}
use mathlib.Core.List.{List}
use Prim.Native.Nat.{ℕ, ◌<◌}
use native.Mathlib.Omega.{arith}
use lib.ListN.{get_or, drop, get_or-append}
use Rattle.std.specs.Prelude.{Result, Ok}
use Rattle.release.specs.Refusals.{told}
use Rattle.el.proofs.Answers.{only_bytes}
use Rattle.release.specs.Files.{names_of, roles_of}
use Rattle.demands.specs.Inputs as Inputs
use Rattle.meanings.specs.declared.Compared.{Compared}
use Rattle.branches.specs.declared.refusals.SheetRefusal.{SheetRefusal}
use Rattle.branches.specs.Refusals.{sheet_refusal}
use Rattle.meanings.specs.Demand3.{Compares}
use Rattle.meanings.proofs.Demand3.{accepted_answer}
use Rattle.branches.specs.declared.row.Row.{Row}
use Rattle.branches.specs.Sheets.{signature_at, no_row, Says}
use Rattle.branches.specs.Single.{RowTells}
use Rattle.branches.proofs.Judged.{known}
use Rattle.branches.proofs.Sheets.{accepted_one}

module _ {s t gs : List ℕ} {q rule : ℕ} {ys zs : List Row} {w v : List ℕ} {answer : Result Compared SheetRefusal} {c : Compared}
    (says : Says s t gs q rule ys zs w v answer) (e : answer ≡ Ok c) (i : ℕ) (l : i < q) where
  abbrev signature : List ℕ
  signature = signature_at (names_of s) (roles_of s) gs i

  given : Inputs.Accepted s t signature
  given = let found = known (sym says.answer ∙ ap (told sheet_refusal) e) in accepted_one found.0 found.1 i l

  pub row_tells : {o p u : List ℕ} (single : Compares s t (signature_at (names_of s) (roles_of s) gs i) o p u)
      → RowTells rule s t (signature_at (names_of s) (roles_of s) gs i) (get_or zs i no_row) single
  row_tells single =
      let filled = says.accepted_rows e in
      let row = filled.each i l in
      let there : get_or zs i no_row ≡ get_or filled.filled i no_row = ap (λ (rows : List Row). get_or rows i no_row) filled.rows ∙ get_or-append filled.filled (drop q ys)
      no_row i (omega (arith, filled.long)) in
      record {
        accepted = λ enough. accepted_answer given enough single;
        row = λ a. rw (there, ← only_bytes row.are_bytes (single.says.accepted a).bytes) row.is;
      }

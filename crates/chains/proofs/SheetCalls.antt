-- Sheets with rows and memory enough: what is accepted step by step is accepted across.
--   sheet_not_refused_across     where the sheet of each step of a chain is accepted, one across with rows and memory enough is
--   three_sheets                 three calls of accepted input
use mathlib.Core.Path.{◌≡◌, sym, ap, ◌∙◌}
use mathlib.Core.Bool.{true}
use mathlib.Core.List.{List}
use Prim.Native.Nat.{ℕ}
use borrow.Author.Tests.{eq-eqb, le-leb}
use lib.ListN.{length}
use Rattle.std.specs.Prelude.{Ok}
use Rattle.release.specs.Files.{names_of, roles_of}
use Rattle.release.specs.Readings.{checked}
use Rattle.release.specs.Refusals.{told}
use Rattle.meanings.specs.Comparing.{agreed, same_counts}
use Rattle.meanings.proofs.Judging.{told_value}
use Rattle.branches.specs.declared.row.Row.{Row}
use Rattle.branches.specs.Refusals.{sheet_refusal}
use Rattle.branches.specs.Shares.{is_rule}
use Rattle.branches.specs.Sheets.{lent_sheet, ruled_sheet, judged, sheet}
use Rattle.branches.proofs.Judged.{known}
use Rattle.chains.specs.Chains.{last_from, Steps, end, step}
use Rattle.chains.specs.Sheets.{ComparesBranches, Sheet}
use Rattle.chains.specs.SheetCalls.{SheetInput, EnoughRows, IsFilled, sheet_of, ThreeSheets}
use Rattle.chains.proofs.Sheets.{across_sheets}

not_refused : {s t gs : List ℕ} {q : ℕ} (rule k w : ℕ) → is_rule rule ≡ true → SheetInput s t gs q → EnoughRows s q k w
    → sheet s t gs q rule k w ≡ Ok (record { names = names_of s; roles = roles_of s })
unfolding checked agreed same_counts lent_sheet ruled_sheet judged
not_refused rule k w ruled given enough = simp (
  checked,
  given.first,
  given.second,
  agreed,
  same_counts,
  lent_sheet,
  ruled_sheet,
  judged,
  ruled,
  eq-eqb _ _ given.names,
  eq-eqb _ _ given.roles,
  le-leb _ _ given.few,
  eq-eqb _ _ given.signatures,
  le-leb _ _ enough.rows,
  le-leb _ _ enough.work,
)

filled : {s t gs : List ℕ} {q rule : ℕ} {ys : List Row} {w : List ℕ} → is_rule rule ≡ true → SheetInput s t gs q → EnoughRows s q (length ys) (length w)
    → (c : ComparesBranches s t gs q rule ys w) → IsFilled c
filled {rule = rule} {ys = ys} {w = w} ruled given enough c =
    told_value sheet_refusal c.answer _ (c.says.answer ∙ not_refused rule (length ys) (length w) ruled given enough)

input_across : {s t u gs : List ℕ} {q : ℕ} → SheetInput s t gs q → SheetInput t u gs q → SheetInput s u gs q
input_across a b = record { first = a.first; second = b.second; names = a.names ∙ b.names; roles = a.roles ∙ b.roles; few = a.few; signatures = a.signatures }

input_of : {s t gs : List ℕ} {q : ℕ} → Sheet gs q s t → SheetInput s t gs q
input_of r =
    let found = known (sym r.call.says.answer ∙ ap (told sheet_refusal) r.accepted) in
    let both = found.0 in
    record {
      first = both.first;
      second = both.second;
      names = sym both.first_names ∙ both.second_names;
      roles = sym both.first_roles ∙ both.second_roles;
      few = found.1.few;
      signatures = rw (both.first_names, both.first_roles) at found.1.signatures;
    }

input_chain : {gs : List ℕ} {q : ℕ} {s t : List ℕ} {us : List (List ℕ)} → SheetInput s t gs q → Steps (Sheet gs q) t us → SheetInput s (last_from t us) gs q
input_chain given end = given
input_chain given (step r rs) = input_chain (input_across given (input_of r)) rs

pub sheet_not_refused_across : {gs : List ℕ} {q : ℕ} {s t : List ℕ} {us : List (List ℕ)} → Sheet gs q s t → Steps (Sheet gs q) t us
    → {rule : ℕ} {ys : List Row} {w : List ℕ} → is_rule rule ≡ true → EnoughRows s q (length ys) (length w) → (over : ComparesBranches s (last_from t us) gs q rule ys w) → IsFilled over
sheet_not_refused_across r rs ruled enough over = filled ruled (input_chain (input_of r) rs) enough over

module _ {s t u gs : List ℕ} {q rule : ℕ} {ys ys' ys'' : List Row} {w w' w'' : List ℕ} (ruled : is_rule rule ≡ true)
    (first : SheetInput s t gs q) (second : SheetInput t u gs q) where
  pub three_sheets : EnoughRows s q (length ys) (length w) → EnoughRows t q (length ys') (length w') → EnoughRows s q (length ys'') (length w'')
      → (one : ComparesBranches s t gs q rule ys w) (two : ComparesBranches t u gs q rule ys' w') (over : ComparesBranches s u gs q rule ys'' w'')
      → ThreeSheets one two over
  three_sheets enough enough' enough'' one two over =
      let p = filled ruled first enough one in
      let q = filled ruled second enough' two in
      let r = filled ruled (input_across first second) enough'' over in
      record { one_accepted = p; two_accepted = q; across_accepted = r; skips = across_sheets (step (sheet_of one p) (step (sheet_of two q) end)) (sheet_of over r) }

-- A sheet by its rows: what filling them gives is what the call promises.
--   accepted_one              each signature of an accepted sheet is accepted
--   not_read, no_rule, not_lent     the promise where it is refused
--   rows_lent, rows_long, fits, says     the rows that are lent, what filling them asks, and the promise where it is not refused
--   all_lent                  the promise where all rows of an array are lent
use mathlib.Core.Path.{◌≡◌, refl, sym, ◌∙◌}
use mathlib.Core.Bool.{true, false}
use mathlib.Core.List.{List, ◌++◌}
use Prim.Native.Nat.{ℕ, ◌≤◌, ◌<◌}
use native.Mathlib.Omega.{arith}
use lib.ListN.{length, get_or, take, drop, replicate}
use lib.Seq.{take_all, length-take-le}
use Rattle.std.specs.Prelude.{Result, Ok, Err}
use Rattle.release.specs.Files.{names_of, roles_of}
use Rattle.release.specs.Readings.{checked}
use Rattle.demands.specs.Inputs as Inputs
use Rattle.demands.proofs.Files.{comparison_bytes_lem}
use Rattle.marks.specs.Memory.{size}
use Rattle.comparison.specs.declared.Releases.{Releases}
use Rattle.meanings.specs.declared.Compared.{Compared}
use Rattle.meanings.specs.declared.refusals.CompareRefusal.{CompareRefusal}
use Rattle.meanings.specs.Comparing.{work_length, agreed}
use Rattle.meanings.specs.Reading.{AreRead}
use Rattle.meanings.specs.Refusals.{compare_refusal}
use Rattle.meanings.proofs.Promise.{Agree, both_agree, both_given, cleared}
use Rattle.branches.specs.declared.refusals.SheetRefusal.{SheetRefusal}
use Rattle.branches.specs.declared.refusals.SheetRefusal.TheVariants.{Comparison, NoRule}
use Rattle.branches.specs.declared.row.Row.{Row}
use Rattle.branches.specs.Filling.{Fits, RowsFilled, FilledPart}
use Rattle.branches.specs.Refusals.{sheet_refusal}
use Rattle.branches.specs.Shares.{is_rule}
use Rattle.branches.specs.Rows.{IsRow}
use Rattle.branches.specs.Sheets.{most_branches, signature_at, no_row, lent_sheet, ruled_sheet, judged, sheet, Says}
use Rattle.branches.proofs.Judged.{Enough, enough}
use Rattle.branches.proofs.Rows.{one_signature}

-- each signature of an accepted sheet is accepted
pub accepted_one : {s t gs : List ℕ} {q rule rows w : ℕ} {c : Compared} → Agree s t c → Enough gs q rule rows w c
    → (i : ℕ) → i < q → Inputs.Accepted s t (signature_at (names_of s) (roles_of s) gs i)
accepted_one {s} {t} {gs} {q} a b i l = record {
  first = a.first;
  second = a.second;
  names = sym a.first_names ∙ a.second_names;
  roles = sym a.first_roles ∙ a.second_roles;
  signature = one_signature (names_of s) (roles_of s) q gs i l (rw (a.first_names, a.first_roles) at b.signatures);
}

module _ {s t : List ℕ} (gs : List ℕ) (q rule : ℕ) (ys : List Row) (w : List ℕ) where
  refuses : {e : SheetRefusal} → Err (sheet_refusal e) ≡ sheet s t gs q rule (length ys) (length w) → Says s t gs q rule ys ys w w (Err e)
  refuses is = record { answer = is; refused_rows = λ z. refl; refused_work = λ z. refl; accepted_rows = λ z. absurd (cc); accepted_work = λ z. absurd (cc) }

  pub not_read : {e : CompareRefusal} → Err (compare_refusal e) ≡ agreed (checked s) (checked t) → Says s t gs q rule ys ys w w (Err (Comparison e))
  unfolding judged
  not_read is = refuses (rw (← is, judged) refl)

  module _ {c : Compared} {r : Releases} (read : AreRead s t c r) where
    pub no_rule : {e : SheetRefusal} → (e ≡ NoRule) × (is_rule rule ≡ false) → Says s t gs q rule ys ys w w (Err e)
    unfolding judged ruled_sheet
    no_rule (is, other) = refuses (rw (is, ← read.counts, judged, ruled_sheet, other) refl)

    module _ (ruled : is_rule rule ≡ true) where
      pub not_lent : {e : SheetRefusal} → Err (sheet_refusal e) ≡ lent_sheet gs q (length ys) (length w) c → Says s t gs q rule ys ys w w (Err e)
      unfolding judged ruled_sheet
      not_lent is = refuses (rw (← read.counts, judged, ruled_sheet, ruled) is)

      module _ {d : Compared} (lends : Ok d ≡ lent_sheet gs q (length ys) (length w) c) where
        lent : Enough gs q rule (length ys) (length w) c
        lent = (enough gs q (length ys) (length w) c d ruled (sym lends)).1

        -- the first rows, one for each signature
        pub rows_lent : q ≤ length ys
        rows_lent = lent.rows_lent

        pub rows_long : length (take q ys) ≡ q
        rows_long = length-take-le q ys rows_lent

        pub fits : Fits r gs (take q ys) w
        fits = record {
          both = both_given read lent.work;
          roles = rw read.first_file (read.roles ∙ (both_agree read).first_roles);
          few = rw rows_long lent.few;
          signatures = rw (read.names, read.roles, rows_long) lent.signatures;
        }

        module _ {vs : List Row} {v : List ℕ} (filled : RowsFilled rule r gs (take q ys) vs w v) where
          rows_are : (i : ℕ) → i < q → IsRow rule s t (signature_at (names_of s) (roles_of s) gs i) (get_or vs i no_row)
          rows_are i l = record {
            bytes = _;
            are_bytes = comparison_bytes_lem (accepted_one (both_agree read) lent i l);
            is = rw (read.first_file, read.second_file) at (filled.each i (omega (arith, rows_long))).is;
          }

          work_is : v ≡ replicate (work_length (names_of s)) 0 ++ drop (work_length (names_of s)) w
          unfolding size
          work_is =
              let z = rw read.names at filled.zeroed in
              rw (both_agree read).first_names at (cleared (work_length c.names) v w z.long lent.work z.zero z.past)

          pub says : Says s t gs q rule ys (vs ++ drop q ys) w v (Ok d)
          unfolding judged ruled_sheet
          says = record {
            answer = rw (← read.counts, judged, ruled_sheet, ruled) lends;
            refused_rows = λ z. absurd (cc);
            refused_work = λ z. absurd (cc);
            accepted_rows = λ z. record { filled = vs; long = filled.long ∙ rows_long; each = rows_are; rows = refl };
            accepted_work = λ z. work_is;
          }

-- all rows lent
pub all_lent : {s t gs : List ℕ} {q rule : ℕ} {ys zs : List Row} {w v : List ℕ} {r : Result Compared SheetRefusal}
    → FilledPart s t gs q rule most_branches ys zs w v r → Says s t gs q rule ys zs w v r
all_lent {ys = ys} {zs = zs} part = rw (take_all most_branches ys (omega (arith, part.long)), take_all most_branches zs (omega (arith, part.still_long))) at part.says

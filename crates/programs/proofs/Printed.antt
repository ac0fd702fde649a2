-- From what the calls promise to what a program prints.
--   prints           a text that was written is printed;  prints_within: its length is within the output
--   answer_fitted    an answer to a comparison with a result that is long enough is written where its text fits
--   station_prints, sheet_prints     the two programs
--   count_divided    how many signatures there are;  none_named, digit_named: the number that a word names
use mathlib.Core.Path.{◌≡◌, refl, sym, ap, ◌∙◌}
use mathlib.Core.List.{List}
use Prim.Native.Nat.{ℕ, ◌*◌, ◌+◌, ◌-◌, ◌/◌, ◌≤◌, ◌<◌}
use native.Mathlib.Omega.{arith}
use borrow.Author.Tests.{eq-eqb, ne_eqb, le-ltb}
use mathlib.Core.Logic.{⊎_elim}
use lib.ListN.{length, get_or}
use Rattle.std.proofs.lemmas.Bool.{cases_lt}
use Rattle.std.specs.Option.{SomeIff, unwrap_or}
use Rattle.std.specs.Prelude.{Option, Some, None, Result, Ok, Err, IfSome}
use Rattle.std.specs.Result.{result_ok}
use Rattle.release.specs.Files.{most_roles, most_names}
use Rattle.release.specs.Readings.{checked}
use Rattle.release.specs.Refusals.{Numbers, told}
use Rattle.release.specs.declared.Counts.{Counts}
use Rattle.meanings.specs.declared.Compared.{Compared}
use Rattle.meanings.specs.declared.refusals.CompareRefusal.{CompareRefusal}
use Rattle.meanings.specs.Comparing.{Says}
use Rattle.meanings.specs.Refusals.{compare_refusal}
use Rattle.meanings.proofs.Promise.{known}
use Rattle.branches.specs.declared.refusals.SheetRefusal.{SheetRefusal}
use Rattle.branches.specs.declared.row.Row.{Row}
use Rattle.branches.specs.Refusals.{sheet_refusal}
use Rattle.branches.specs.Sheets as branches
use Rattle.branches.specs.Sheets.{most_branches}
use Rattle.report.specs.declared.refusals.ReportRefusal.{ReportRefusal}
use Rattle.report.specs.declared.refusals.ReportRefusal.TheVariants.{ShortOutput}
use Rattle.output.specs.Written.{fitted, WrittenAs}
use Rattle.output.proofs.Written.{fits, lacks}
use Rattle.report.specs.Written.{report_answer}
use Rattle.report.specs.Answered.{answer_text, answer_to}
use Rattle.report.specs.Sheets.{sheet_text, SheetWritten}
use Rattle.programs.specs.Printed.{Prints, signature_count, rule_named, StationPrints, SheetPrints}

-- a text that is written
pub prints : {text o p : List ℕ} {a : Result ℕ ReportRefusal} {r : Option ℕ} → WrittenAs (fitted ShortOutput text o) text o p a → r ≡ result_ok a → Prints text o p r
prints {text} {o} {p} {a} {r} w e = record {
  written = a;
  writes = w;
  whole = λ h. (e ∙ ap result_ok (w.answers ∙ fits ShortOutput text o h), rw (fits ShortOutput text o h) at w.leaves);
  short = λ h. (e ∙ ap result_ok (w.answers ∙ lacks ShortOutput text o h), rw (lacks ShortOutput text o h) at w.leaves);
}

pub prints_within : (text o p : List ℕ) (r : Option ℕ) → length p ≡ length o → Prints text o p r → IfSome r (λ k. k ≤ length p)
prints_within text o p None same w = tt
prints_within text o p (Some k) same w = ⊎_elim lacking whole (cases_lt (length o) (length text))
  where
    lacking : length o < length text → k ≤ length p
    lacking h = let e = (w.short h).0 in absurd (cc)

    whole : length text ≤ length o → k ≤ length p
    whole h = let e = (w.whole h).0 in let equal : k ≡ length text = cc in omega arith

-- a comparison is accepted only where the result has a byte for each name, so that its answer is written where its text fits
answer_fitted : (a : Result Compared Numbers) (bs o : List ℕ) → ((c : Compared) → a ≡ Ok c → c.names ≤ length bs) → answer_to a bs o ≡ fitted ShortOutput (answer_text a bs) o
unfolding answer_to answer_text report_answer
answer_fitted (Err k) bs o f = refl
answer_fitted (Ok c) bs o f = rw (le-ltb (length bs) c.names (f c refl))

-- the station
module _ {s t g b bs m ms w v o p : List ℕ} {a : Result Compared CompareRefusal} {d : Result ℕ ReportRefusal} {r : Option ℕ} where
  pub station_prints : length b ≡ most_names → length bs ≡ length b → length m ≡ most_roles * most_roles → Says s t g b bs m ms w v a
      → WrittenAs (answer_to (told compare_refusal a) bs o) (answer_text (told compare_refusal a) bs) o p d → r ≡ result_ok d → StationPrints s t g w v o p r
  station_prints h i l says writes e =
      let fitting : answer_to (told compare_refusal a) bs o ≡ fitted ShortOutput (answer_text (told compare_refusal a) bs) o =
      answer_fitted (told compare_refusal a) bs o (λ c f. rw i (known s t g (length b) (length m) (length w) c (sym says.answer ∙ f)).1.result) in
      record { lent = b; result = bs; answer = a; long = h; roles_lent = m; role_result = ms; roles_long = l; says = says; prints = prints (rw fitting at writes) e }

-- the sheet
module _ {s t gs word w v o p : List ℕ} {ys zs : List Row} {a : Result Compared SheetRefusal} {d : Result ℕ ReportRefusal} {q rule : ℕ} {r : Option ℕ} where
  pub sheet_prints : length ys ≡ most_branches → q ≡ signature_count (checked s) (length gs) → rule ≡ rule_named word → branches.Says s t gs q rule ys zs w v a
      → SheetWritten (told sheet_refusal a) q zs o p d → r ≡ result_ok d → SheetPrints s t gs word w v o p r
  sheet_prints h i named says writes e = record {
    lent = ys;
    rows = zs;
    answer = a;
    long = h;
    says = rw (i, named) at says;
    prints = rw i at (prints {text = sheet_text (told sheet_refusal a) q zs} writes e);
  }

-- how many signatures there are
pub count_refused : (c : Result Counts Numbers) (bytes : ℕ) {k : Numbers} → Err k ≡ c → 0 ≡ signature_count c bytes
unfolding signature_count
count_refused c bytes e = rw (← e) refl

pub count_divided : (c : Result Counts Numbers) (bytes : ℕ) (a : Counts) → Ok a ≡ c → (d : Option ℕ) → SomeIff d (0 < a.names + a.roles) (bytes / (a.names + a.roles))
    → unwrap_or d 0 ≡ signature_count c bytes
unfolding signature_count
count_divided c bytes a e None h = let none : a.names + a.roles ≡ 0 = omega arith in rw (← e, signature_count) (simp (eq-eqb _ 0 none))
count_divided c bytes a e (Some q) (some, is) = rw (← e, signature_count) (simp (ne_eqb (a.names + a.roles) 0 (λ z. omega arith)) is)

-- the number that a word names
pub none_named : (word : List ℕ) → (length word ≡ 1 → ⊥) → 0 ≡ rule_named word
unfolding rule_named
none_named word h = simp (rule_named, ne_eqb (length word) 1 h)

pub digit_named : (word : List ℕ) {number : ℕ} → length word ≡ 1 → number ≡ get_or word 0 0 - 48 → number ≡ rule_named word
unfolding rule_named
digit_named word h is = simp (rule_named, eq-eqb (length word) 1 h) is

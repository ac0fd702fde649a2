-- The report as a call: no report is longer than the longest, so that nothing is refused once the releases have been compared.
--   report_short          the length of a report
--   text_short            what writing it answers fits a lent number
--   reported, not_compared, no_room     the promise, where the report is written, the comparison refused, the output too short
use mathlib.Core.Path.{◌≡◌, refl, sym, ap, ◌∙◌}
use mathlib.Core.Bool.{Bool, true, false}
use mathlib.Core.List.{List, [], ◌∷◌, ◌++◌}
use Prim.Native.Nat.{ℕ, suc, ◌+◌, ◌*◌, ◌-◌, ◌/◌, ◌%◌, ◌≤◌, ◌<◌}
use native.Mathlib.Nat.{div-lt_iff_lt-mul}
use native.Mathlib.Omega.{arith}
use borrow.Author.Tests.{le-ltb, ltb-true, ltb-false}
use lib.Dec.{ltb}
use lib.ListN.{length, take, replicate, length-append, length-take, length-replicate}
use Rattle.el.specs.Lists.{count}
use Rattle.el.specs.Comparison.{on_left, on_right, is_reported}
use Rattle.release.specs.Files.{most_names, most_roles}
use Rattle.meanings.specs.Comparing.{Says}
use Rattle.meanings.specs.Comparing.{refused as comparison_refused}
use Rattle.meanings.specs.declared.Compared.{Compared}
use Rattle.meanings.proofs.Promise.{known, few_counts}
use Rattle.branches.proofs.Counts.{count_few}
use Rattle.output.specs.Numbers.{decimal, space}
use Rattle.report.specs.Numbers.{three_digits}
use Rattle.report.specs.Texts.{newline, letter, entry, lines, two_numbers, names_word, roles_word, left_word, right_word, report, report_with}
use Rattle.output.specs.Written.{WrittenAs}
use Rattle.output.proofs.Written.{fits}
use Rattle.report.specs.Written.{report_text, report_answer}
use Rattle.report.specs.Refusals.{report_refusal}
use Rattle.report.specs.declared.refusals.ReportRefusal.{ReportRefusal}
use Rattle.report.specs.declared.refusals.ReportRefusal.TheVariants.{ShortOutput}
use Rattle.meanings.specs.Refusals.{compare_refusal}
use Rattle.meanings.specs.declared.refusals.CompareRefusal.{CompareRefusal}
use Rattle.release.specs.Refusals.{told}
use Rattle.std.specs.Prelude.{Result, Ok, Err, IfOk}
use Rattle.exported.specs.Codes.{Fits32, Returns, refusal_code, longest_report, ReportReturns}
use Rattle.output.proofs.Decimals.{length_below_10, length_below_100, length_below_1000, length_below_10000}
use Rattle.report.proofs.ThreeDigits.{three_of_one, three_of_two, three_of_more}
use Rattle.report.proofs.Entries.{entry_line, entry_nothing}

-- the line of a name: 6 bytes, and one more from 1,000 on
name_short : (a : ℕ) → a < 1000 → length (three_digits a) ≤ 3
name_short a h = by_size (ltb a 10) (ltb a 100) refl refl
  where
    by_size : (b d : Bool) → ltb a 10 ≡ b → ltb a 100 ≡ d → length (three_digits a) ≤ 3
    by_size true d e f = omega (arith, ap length (three_of_one a (ltb-true a 10 e)), length_below_10 a (ltb-true a 10 e))
    by_size false true e f = omega (arith, ap length (three_of_two a (ltb-false a 10 e) (ltb-true a 100 f)), length_below_100 a (ltb-true a 100 f))
    by_size false false e f = omega (arith, ap length (three_of_more a (ltb-false a 10 e) (ltb-false a 100 f)), length_below_1000 a h)

name_long : (a : ℕ) → 1000 ≤ a → a < 10000 → length (three_digits a) ≤ 4
name_long a l h = omega (arith, ap length (three_of_more a (omega arith) (omega arith)), length_below_10000 a h)

entry_short : (a b k : ℕ) → length (three_digits a) ≤ k → length (entry a b) ≤ k + 3
entry_short a b k h = by_byte (is_reported b) refl
  where
    by_byte : (d : Bool) → is_reported b ≡ d → length (entry a b) ≤ k + 3
    by_byte true e = omega (arith, ap length (entry_line a b e), length-append (three_digits a) (space ∷ letter b ∷ newline ∷ []))
    by_byte false e = omega (arith, ap length (entry_nothing a b e))

lines_short : (a : ℕ) (bs : List ℕ) → a + length bs ≤ 10000 → length (lines a bs) + (a - 1000) ≤ 6 * length bs + (a + length bs - 1000)
unfolding lines
lines_short a [] h = omega arith
lines_short a (b ∷ bs) h = by_name (ltb a 1000) refl (lines_short (suc a) bs (omega arith))
  where
    all : length (lines a (b ∷ bs)) ≡ length (entry a b) + length (lines (suc a) bs)
    all = length-append (entry a b) (lines (suc a) bs)

    by_name : (d : Bool) → ltb a 1000 ≡ d → length (lines (suc a) bs) + (suc a - 1000) ≤ 6 * length bs + (suc a + length bs - 1000)
        → length (lines a (b ∷ bs)) + (a - 1000) ≤ 6 * length (b ∷ bs) + (a + length (b ∷ bs) - 1000)
    by_name true e rest = omega (arith, all, rest, ltb-true a 1000 e, entry_short a b 3 (name_short a (ltb-true a 1000 e)))
    by_name false e rest = omega (arith, all, rest, ltb-false a 1000 e, entry_short a b 4 (name_long a (ltb-false a 1000 e) (omega arith)))

two_numbers_length : (v : List ℕ) (x : ℕ) (w : List ℕ) (y : ℕ) → length (two_numbers v x w y) ≡ length v + (length (decimal x) + (length w + (length (decimal y) + 1)))
unfolding two_numbers
two_numbers_length v x w y = simp length-append

pub report_short : (n m : ℕ) (result : List ℕ) → n ≤ most_names → m ≤ most_roles → length (report_text n m result) ≤ longest_report
unfolding report report_with
report_short n m result names roles =
    let bs : List ℕ = take n result in
    let few : length bs ≤ n = simp length-take (omega arith) in
    let left : ℕ = count on_left bs in
    let right : ℕ = count on_right bs in
    let first : List ℕ = two_numbers names_word n roles_word m in
    let last : List ℕ = two_numbers left_word left right_word right in
    omega (
      arith,
      length-append first (lines 0 bs ++ last),
      length-append (lines 0 bs) last,
      two_numbers_length names_word n roles_word m,
      two_numbers_length left_word left right_word right,
      length_below_10000 n (omega arith),
      length_below_100 m (omega arith),
      length_below_10000 left (omega (arith, count_few on_left bs)),
      length_below_10000 right (omega (arith, count_few on_right bs)),
      lines_short 0 bs (omega arith),
    )

-- writing the report of an accepted comparison
written_whole : (n m : ℕ) (result o : List ℕ) → n ≤ length result → length (report_text n m result) ≤ length o → report_answer n m result o ≡ Ok (length (report_text n m result))
unfolding report_answer
written_whole n m result o h l = rw (le-ltb _ _ h) (fits _ (report_text n m result) o l)

-- a comparison that was made, with a result of as many bytes as there can be names
module _ {s t g b bs m ms w v : List ℕ} (o : List ℕ) (long : longest_report ≤ length o) (all : length b ≡ most_names) (same : length bs ≡ length b)
    (squares : length m ≡ most_roles * most_roles) where
  pub not_compared : {e : CompareRefusal} → Says s t g b bs m ms w v (Err e) → {x r : ℕ} → r ≡ refusal_code (compare_refusal e) → ReportReturns s t g o o x x w v r
  not_compared {e} says h = record {
    lent = b;
    result = bs;
    answer = Err (compare_refusal e);
    names = all;
    room = λ _. record { answer = Err e; roles_lent = m; role_result = ms; roles_long = squares; says = says; told_of = refl };
    no_room = λ l. absurd (omega arith);
    output = refl;
    returns = record { code = h; lent = refl };
  }

  module _ {c : Compared} (says : Says s t g b bs m ms w v (Ok c)) where
    abbrev text : List ℕ
    text = report_text c.names c.roles bs

    few : (c.names ≤ most_names) × (c.roles ≤ most_roles)
    few = few_counts (known s t g (length b) (length m) (length w) c (sym says.answer)).0

    short : length text ≤ longest_report
    short = report_short c.names c.roles bs few.0 few.1

    whole : report_answer c.names c.roles bs o ≡ Ok (length text)
    whole = written_whole c.names c.roles bs o (omega (arith, few.0)) (omega (arith, short))

    module _ {p : List ℕ} {a : Result ℕ ReportRefusal} (writes : WrittenAs (report_answer c.names c.roles bs o) (report_text c.names c.roles bs) o p a) where
      is_length : a ≡ Ok (length text)
      is_length = writes.answers ∙ whole

      pub text_short : IfOk a Fits32
      text_short = rw is_length (omega (arith, short))

      pub reported : {x y r : ℕ} → Returns (told report_refusal a) x y r → ReportReturns s t g o p x y w v r
      reported {x} {y} {r} gave = record {
        lent = b;
        result = bs;
        answer = Ok c;
        names = all;
        room = λ _. record { answer = Ok c; roles_lent = m; role_result = ms; roles_long = squares; says = says; told_of = refl };
        no_room = λ l. absurd (omega arith);
        output = rw whole at writes.leaves;
        returns = rw is_length at gave;
      }

-- an output that is too short
pub no_room : {s t g o w : List ℕ} {x r : ℕ} → length o < longest_report → r ≡ refusal_code (report_refusal ShortOutput) → ReportReturns s t g o o x x w w r
no_room h f = record {
  lent = replicate most_names 0;
  result = replicate most_names 0;
  answer = comparison_refused 33 0;
  names = length-replicate {A = ℕ} most_names 0;
  room = λ l. absurd (omega arith);
  no_room = λ _. (refl, refl);
  output = refl;
  returns = record { code = f; lent = refl };
}

-- What writing a report answers and leaves: the result may be too short, and then the output; and the text that is put.
use mathlib.Core.Path.{◌≡◌, refl}
use mathlib.Core.List.{List}
use Prim.Native.Nat.{ℕ, ◌≤◌, ◌<◌}
use borrow.Author.Tests.{lt-ltb, le-ltb}
use lib.ListN.{length, take}
use Rattle.std.specs.Prelude.{Result, Err}
use Rattle.el.specs.Comparison.{on_left, on_right}
use Rattle.el.specs.Lists.{count}
use Rattle.output.specs.Written.{fitted, WrittenAs}
use Rattle.report.specs.declared.refusals.ReportRefusal.{ReportRefusal}
use Rattle.report.specs.declared.refusals.ReportRefusal.TheVariants.{ShortResult, ShortOutput}
use Rattle.report.specs.Texts.{report_with, report}
use Rattle.report.specs.Written.{report_text, report_answer}

module _ (n m : ℕ) (result o : List ℕ) where
  pub result_too_short : {a : Result ℕ ReportRefusal} → length result < n → a ≡ Err ShortResult → WrittenAs (report_answer n m result o) (report_text n m result) o o a
  unfolding report_answer
  result_too_short {a} h e = rw (lt-ltb (length result) n h, report_answer) (record { answers = e; leaves = refl })

  pub result_long_enough : {a : Result ℕ ReportRefusal} {q : List ℕ} → n ≤ length result → WrittenAs (fitted ShortOutput (report_text n m result) o) (report_text n m result) o q a
      → WrittenAs (report_answer n m result o) (report_text n m result) o q a
  unfolding report_answer
  result_long_enough {a} {q} h written = rw (le-ltb (length result) n h, report_answer) written

  pub counted_text : (k r x y : ℕ) → k ≡ n → r ≡ m → x ≡ count on_left (take k result) → y ≡ count on_right (take k result) → report_with k r x y (take k result) ≡ report_text n m result
  unfolding report
  counted_text k r x y names roles left right = rw (left, right, names, roles)

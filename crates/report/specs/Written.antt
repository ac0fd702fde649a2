-- What writing a report answers.
--   report_text n m result       the text of a report: the bytes of the first n names decide
--   report_answer n m result o   what writing it answers: the result may be too short, and then the output
use Rattle.std.specs.Prelude.{List, ℕ, ltb, length, take, Result, Err}
use Rattle.el.specs.Lists.{pick}
use Rattle.output.specs.Written.{fitted}
use Rattle.report.specs.Texts.{report}
use Rattle.report.specs.declared.refusals.ReportRefusal.{ReportRefusal}
use Rattle.report.specs.declared.refusals.ReportRefusal.TheVariants.{ShortResult, ShortOutput}

abbrev pub report_text : ℕ → ℕ → List ℕ → List ℕ
report_text n m result = report n m (take n result)

unfoldable pub report_answer : ℕ → ℕ → List ℕ → List ℕ → Result ℕ ReportRefusal
report_answer n m result o = pick (ltb (length result) n) (Err ShortResult) (fitted ShortOutput (report_text n m result) o)

-- What is written of the answer of a comparison.
--   answer_text a bs        the text of the answer a with the result bytes bs: the report, or the line of the refusal
--   answer_to a bs o        what writing it to the output o answers
use Rattle.std.specs.Prelude.{List, ℕ, Result, Ok, Err}
use Rattle.release.specs.Refusals.{Numbers}
use Rattle.meanings.specs.declared.Compared.{Compared}
use Rattle.report.specs.declared.refusals.ReportRefusal.{ReportRefusal}
use Rattle.report.specs.declared.refusals.ReportRefusal.TheVariants.{ShortOutput}
use Rattle.report.specs.Texts.{refusal_line}
use Rattle.output.specs.Written.{fitted}
use Rattle.report.specs.Written.{report_text, report_answer}

unfoldable pub answer_text : Result Compared Numbers → List ℕ → List ℕ
answer_text (Ok counts) bs = report_text counts.names counts.roles bs
answer_text (Err refusal) bs = refusal_line refusal.number refusal.side

unfoldable pub answer_to : Result Compared Numbers → List ℕ → List ℕ → Result ℕ ReportRefusal
answer_to (Ok counts) bs o = report_answer counts.names counts.roles bs o
answer_to (Err refusal) bs o = fitted ShortOutput (refusal_line refusal.number refusal.side) o

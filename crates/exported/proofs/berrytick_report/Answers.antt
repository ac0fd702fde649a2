-- An output that is long enough for the longest report is long enough for this one, so that nothing is refused after the comparison.
use native.Mathlib.Omega.{arith}
use mathlib.Core.Path.{refl}
use Rattle.exported.proofs.Reports.{not_compared, text_short, reported, no_room}
use Rattle.exported.proofs.berrytick_report.Goals as goal

pub returns-then-output-lt-REPORT : goal.returns-then-output-lt-REPORT
returns-then-output-lt-REPORT c = no_room c.if-output-lt-REPORT.true c.refusal_code.ensures

pub give_length-requires : goal.give_length-requires
give_length-requires c = text_short _ c.if-output-lt-REPORT.false refl (omega arith) refl c.in-Ok.ensures c.write_report.ensures

pub returns-in-Ok : goal.returns-in-Ok
returns-in-Ok c = reported _ c.if-output-lt-REPORT.false refl (omega arith) refl c.in-Ok.ensures c.write_report.ensures c.give_length.ensures

pub returns-in-Err : goal.returns-in-Err
returns-in-Err c = not_compared _ c.if-output-lt-REPORT.false refl (omega arith) refl c.in-Err.ensures c.refusal_code-in-Err.ensures

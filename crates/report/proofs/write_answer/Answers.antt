-- `write_answer` meets its contract: by the two cases of the answer.
use Rattle.report.specs.Answered.{answer_text, answer_to}
use Rattle.report.proofs.write_answer.Goals as goal

pub returns-in-Ok : goal.returns-in-Ok
unfolding answer_text answer_to
returns-in-Ok g c = rw (c.in-Ok.is, answer_text, answer_to) c.write_report.ensures

pub returns-in-Err : goal.returns-in-Err
unfolding answer_text answer_to
returns-in-Err g c = rw (c.in-Err.is, answer_text, answer_to) c.write_refusal.ensures

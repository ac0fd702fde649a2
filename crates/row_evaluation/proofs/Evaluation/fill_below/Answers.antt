-- `Evaluation::fill_below` meets its contract. Invariant: the rows before i hold the nodes below them, and the others are empty.
use Rattle.row_evaluation.proofs.RowForms.{form_inside, form_there}
use Rattle.row_evaluation.proofs.FillingBelow.{filled_more, row_room}
use Rattle.row_evaluation.proofs.Evaluation.fill_below.Goals.{in-Some, in_default}
use Rattle.row_evaluation.proofs.Evaluation.fill_below.Goals as goal

pub put_form-requires-clause-room : goal.put_form-requires-clause-room
put_form-requires-clause-room c = row_room c.requires c.loop-i-test.true c.loop-i.invariant

pub put_form-requires-clause-form : goal.put_form-requires-clause-form
put_form-requires-clause-form c = form_inside (c.requires.fit _ c.loop-i-test.true) c.in-Some.ensures

pub loop-i-preserved : goal.loop-i-preserved
loop-i-preserved c = elim c.match-read_row.branch [
  | in-Some w ↦ rw w.work-is (filled_more c.requires c.loop-i-test.true c.loop-i.invariant w.in-Some.ensures w.put_form.ensures)
  | in_default w ↦ form_there (c.requires.fit _ c.loop-i-test.true) w.in_default.ensures
]

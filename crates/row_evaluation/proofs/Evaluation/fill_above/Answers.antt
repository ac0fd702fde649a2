-- `Evaluation::fill_above` meets its contract. Invariant: the rows before i hold the names above them, and the others are empty.
use Rattle.row_evaluation.proofs.RowForms.{form_inside, form_there}
use Rattle.row_evaluation.proofs.FillingAbove.{raised_room, raised_more}
use Rattle.row_evaluation.proofs.Evaluation.fill_above.Goals.{in-Some, in_default}
use Rattle.row_evaluation.proofs.Evaluation.fill_above.Goals as goal

pub put_above-requires-clause-room : goal.put_above-requires-clause-room
put_above-requires-clause-room c = raised_room c.requires c.loop-i-test.true c.loop-i.invariant

pub put_above-requires-clause-form : goal.put_above-requires-clause-form
put_above-requires-clause-form c = form_inside (c.requires.fit _ c.loop-i-test.true) c.in-Some.ensures

pub loop-i-preserved : goal.loop-i-preserved
loop-i-preserved c = elim c.match-read_row.branch [
  | in-Some w ↦ rw w.work-is (raised_more c.requires c.loop-i-test.true c.loop-i.invariant w.in-Some.ensures w.put_above.ensures)
  | in_default w ↦ form_there (c.requires.fit _ c.loop-i-test.true) w.in_default.ensures
]

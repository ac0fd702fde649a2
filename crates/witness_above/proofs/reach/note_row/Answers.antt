-- `reach::note_row` meets its contract. Invariant: the pairs of the names before d are noted.
use Rattle.witness_above.proofs.Reaching.{row_more, row_skip}
use Rattle.witness_above.proofs.reach.note_row.Goals.{then-leads, else-leads}
use Rattle.witness_above.proofs.reach.note_row.Goals as goal

pub loop-d-preserved : goal.loop-d-preserved
loop-d-preserved c = elim c.if-leads.branch [
  | then-leads w ↦ rw w.work-is (row_more c.requires.reach c.requires.x_le_names.1 c.loop-d-test.true c.loop-d.invariant c.leads.ensures w.if-leads.true w.filler.ensures w.note.ensures)
  | else-leads w ↦ rw w.work-is (row_skip c.requires.reach c.requires.x_le_names.1 c.loop-d-test.true c.loop-d.invariant c.leads.ensures w.if-leads.false)
]

-- `Evaluation::put_above` meets its contract. Invariant: of the names before y, row i has those above it.
use Rattle.row_evaluation.proofs.Putting.{put_turn, skip_turn}
use Rattle.row_evaluation.proofs.StayingAbove.{was_above, was_not_above}
use Rattle.row_evaluation.proofs.Evaluation.put_above.Goals.{then-is_plain_above, else-is_plain_above}
use Rattle.row_evaluation.proofs.Evaluation.put_above.Goals as goal

pub loop-y-preserved : goal.loop-y-preserved
loop-y-preserved c = elim c.if-is_plain_above.branch [
  | then-is_plain_above w ↦ rw w.work-is (put_turn c.loop-y.invariant w.put.ensures
      (was_above c.requires.upward c.loop-y.invariant c.requires.form c.is_plain_above.ensures w.if-is_plain_above.true))
  | else-is_plain_above w ↦ rw w.work-is (skip_turn c.loop-y.invariant
      (was_not_above c.requires.upward c.loop-y.invariant c.requires.form c.is_plain_above.ensures w.if-is_plain_above.false))
]

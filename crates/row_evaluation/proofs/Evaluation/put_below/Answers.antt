-- `Evaluation::put_below` meets its contract. Invariant: of the nodes before x, row i has those below b.
use native.Mathlib.Omega.{arith}
use Rattle.row_evaluation.proofs.Putting.{put_turn, skip_turn, put_end, was_marked, was_not_marked}
use Rattle.row_evaluation.proofs.Evaluation.put_below.Goals.{then-is_marked, else-is_marked}
use Rattle.row_evaluation.proofs.Evaluation.put_below.Goals as goal

pub loop-x-preserved : goal.loop-x-preserved
loop-x-preserved c = elim c.if-is_marked.branch [
  | then-is_marked w ↦ rw w.work-is (put_turn c.loop-x.invariant w.put.ensures
      (was_marked c.requires.setting c.requires.b_le_names c.loop-x.invariant (omega arith) c.is_marked.ensures w.if-is_marked.true))
  | else-is_marked w ↦ rw w.work-is (skip_turn c.loop-x.invariant
      (was_not_marked c.requires.setting c.requires.b_le_names c.loop-x.invariant (omega arith) c.is_marked.ensures w.if-is_marked.false))
]

pub returns-after-is_marked : goal.returns-after-is_marked
returns-after-is_marked c = elim c.if-is_marked.branch [
  | then-is_marked w ↦ rw w.work-is (put_end (put_turn c.loop-x.invariant w.put.ensures
      (was_marked c.requires.setting c.requires.b_le_names c.loop-x.invariant (omega arith) c.is_marked.ensures w.if-is_marked.true)) (omega arith))
  | else-is_marked w ↦ rw w.work-is (put_end (skip_turn c.loop-x.invariant
      (was_not_marked c.requires.setting c.requires.b_le_names c.loop-x.invariant (omega arith) c.is_marked.ensures w.if-is_marked.false)) (omega arith))
]

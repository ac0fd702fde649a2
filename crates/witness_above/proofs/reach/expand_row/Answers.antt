-- `reach::expand_row` meets its contract. Invariant: no pair of x and a node before y is new, or there was one.
use native.Mathlib.Omega.{arith}
use Rattle.row_evaluation.proofs.RowBytes.{room_same, room_earlier}
use Rattle.witness_above.proofs.Reaching.{row_new, row_old, row_done, row_followed}
use Rattle.witness_above.proofs.reach.expand_row.Goals.{then-is_new, else-is_new}
use Rattle.witness_above.proofs.reach.expand_row.Goals as goal

pub settle-requires-clause-room : goal.settle-requires-clause-room
settle-requires-clause-room c = room_same c.loop-y.invariant.long (room_earlier (omega arith) c.requires.reach.bytes)

pub expand-requires-clause-followed : goal.expand-requires-clause-followed
expand-requires-clause-followed c = row_followed c.requires.reach c.requires.x_le_names (omega arith) c.loop-y.invariant c.settle.ensures c.requires.followed

pub loop-y-preserved : goal.loop-y-preserved
loop-y-preserved c = elim c.if-is_new.branch [
  | then-is_new w ↦ rw (w.work-is, w.changed-is) (row_new c.requires.reach c.requires.x_le_names (omega arith) c.loop-y.invariant c.is_new.ensures w.if-is_new.true w.settle.ensures w.expand.ensures)
  | else-is_new w ↦ rw (w.work-is, w.changed-is) (row_old c.loop-y.invariant c.is_new.ensures w.if-is_new.false)
]

pub returns-after-is_new : goal.returns-after-is_new
returns-after-is_new c = elim c.if-is_new.branch [
  | then-is_new w ↦ rw (w.work-is, w.changed-is)
      (row_done (omega arith) (row_new c.requires.reach c.requires.x_le_names (omega arith) c.loop-y.invariant c.is_new.ensures w.if-is_new.true w.settle.ensures w.expand.ensures))
  | else-is_new w ↦ rw (w.work-is, w.changed-is) (row_done (omega arith) (row_old c.loop-y.invariant c.is_new.ensures w.if-is_new.false))
]

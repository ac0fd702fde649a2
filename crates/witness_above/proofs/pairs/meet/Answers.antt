-- `pairs::meet` meets its contract. Invariant: of the nodes before y row x has those that the line has.
use native.Mathlib.Omega.{arith}
use Rattle.row_evaluation.proofs.RowBytes.{room_same, room_earlier}
use Rattle.witness_above.proofs.Steps.{met_kept, met_taken, met_end}
use Rattle.witness_above.proofs.pairs.meet.Goals.{then-not-holds, else-not-holds}
use Rattle.witness_above.proofs.pairs.meet.Goals as goal

pub take-requires-clause-room : goal.take-requires-clause-room
take-requires-clause-room c = room_earlier (omega (arith, c.requires.x_le_names)) (room_same c.loop-y.invariant.long c.requires.room)

pub loop-y-preserved : goal.loop-y-preserved
loop-y-preserved c = elim c.if-not-holds.branch [
  | then-not-holds w ↦ rw w.work-is (met_taken c.requires.x_le_names c.loop-y.invariant c.holds.ensures w.if-not-holds.true w.take.ensures)
  | else-not-holds w ↦ rw w.work-is (met_kept c.requires.x_le_names c.loop-y.invariant c.holds.ensures w.if-not-holds.false)
]

pub returns-after-not-holds : goal.returns-after-not-holds
returns-after-not-holds c = elim c.if-not-holds.branch [
  | then-not-holds w ↦ rw w.work-is (met_end (omega arith) (met_taken c.requires.x_le_names c.loop-y.invariant c.holds.ensures w.if-not-holds.true w.take.ensures))
  | else-not-holds w ↦ rw w.work-is (met_end (omega arith) (met_kept c.requires.x_le_names c.loop-y.invariant c.holds.ensures w.if-not-holds.false))
]

-- `Cells::put_both` meets its contract. Invariant: of the nodes before x, row i has those of both rows.
use native.Mathlib.Omega.{arith}
use Rattle.row_evaluation.proofs.RowBytes.{room_same, room_earlier}
use Rattle.row_evaluation.proofs.Putting.{put_turn, skip_turn, put_end, did_hold, did_not_hold}
use Rattle.row_evaluation.proofs.cells.Cells.put_both.Goals.{then-holds+then-holds-2, else-holds, else-holds-via-then-holds+else-holds-2, else-holds-via-else-holds}
use Rattle.row_evaluation.proofs.cells.Cells.put_both.Goals as goal

pub holds-requires-clause-room : goal.holds-requires-clause-room
holds-requires-clause-room c = room_earlier c.requires.earlier.0 (room_same c.loop-x.invariant.long c.requires.room)

pub holds-requires-then-holds-clause-room : goal.holds-requires-then-holds-clause-room
holds-requires-then-holds-clause-room c = room_earlier c.requires.earlier.1 (room_same c.loop-x.invariant.long c.requires.room)

pub loop-x-preserved : goal.loop-x-preserved
loop-x-preserved c = elim c.if-holds.branch [
  | then-holds+then-holds-2 w ↦ rw w.work-is (put_turn c.loop-x.invariant w.put.ensures (
    did_hold c.loop-x.invariant c.requires.earlier.0 (omega arith) c.holds.ensures w.if-holds.true,
    did_hold c.loop-x.invariant c.requires.earlier.1 (omega arith) w.holds-then-holds.ensures w.if-holds-2.true,
  ))
  | else-holds w ↦ rw w.work-is (skip_turn c.loop-x.invariant (elim w.else-holds.branch [
    | else-holds-via-then-holds+else-holds-2 v ↦ λ p. did_not_hold c.loop-x.invariant c.requires.earlier.1 (omega arith) v.holds-then-holds.ensures v.if-holds-2.false p.1
    | else-holds-via-else-holds v ↦ λ p. did_not_hold c.loop-x.invariant c.requires.earlier.0 (omega arith) c.holds.ensures v.if-holds.false p.0
  ]))
]

pub returns-after-holds : goal.returns-after-holds
returns-after-holds c = elim c.if-holds.branch [
  | then-holds+then-holds-2 w ↦ rw w.work-is (put_end (put_turn c.loop-x.invariant w.put.ensures (
    did_hold c.loop-x.invariant c.requires.earlier.0 (omega arith) c.holds.ensures w.if-holds.true,
    did_hold c.loop-x.invariant c.requires.earlier.1 (omega arith) w.holds-then-holds.ensures w.if-holds-2.true,
  )) (omega arith))
  | else-holds w ↦ rw w.work-is (put_end (skip_turn c.loop-x.invariant (elim w.else-holds.branch [
    | else-holds-via-then-holds+else-holds-2 v ↦ λ p. did_not_hold c.loop-x.invariant c.requires.earlier.1 (omega arith) v.holds-then-holds.ensures v.if-holds-2.false p.1
    | else-holds-via-else-holds v ↦ λ p. did_not_hold c.loop-x.invariant c.requires.earlier.0 (omega arith) c.holds.ensures v.if-holds.false p.0
  ])) (omega arith))
]

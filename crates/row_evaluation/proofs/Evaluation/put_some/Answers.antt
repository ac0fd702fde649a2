-- `Evaluation::put_some` meets its contract. Invariant: row i has the nodes below the ∃ by a name before b.
use native.Mathlib.Omega.{arith}
use Rattle.row_evaluation.proofs.RowBytes.{room_same, room_earlier}
use Rattle.row_evaluation.proofs.FillingBelow.{served, not_served, some_start, some_turn, some_skip, some_end}
use Rattle.row_evaluation.proofs.Evaluation.put_some.Goals.{then-has_successor, else-has_successor}
use Rattle.row_evaluation.proofs.Evaluation.put_some.Goals as goal

pub has_successor-requires-clause-room : goal.has_successor-requires-clause-room
has_successor-requires-clause-room c = room_earlier c.requires.earlier (room_same c.loop-b.invariant.long c.requires.room)

pub loop-b-preserved : goal.loop-b-preserved
loop-b-preserved c = elim c.if-has_successor.branch [
  | then-has_successor w ↦ rw w.work-is (some_turn c.requires.setting c.requires.earlier c.loop-b-test.true c.loop-b.invariant
      (served c.requires.setting c.requires.earlier c.loop-b.invariant c.loop-b-test.true c.has_successor.ensures w.if-has_successor.true) w.put_below.ensures)
  | else-has_successor w ↦ rw w.work-is (some_skip c.requires.setting c.requires.earlier c.loop-b-test.true c.loop-b.invariant
      (not_served c.requires.setting c.requires.earlier c.loop-b.invariant c.loop-b-test.true c.has_successor.ensures w.if-has_successor.false))
]

pub returns : goal.returns
returns c = some_end (omega arith) c.loop-b.invariant

pub loop-b-init : goal.loop-b-init
loop-b-init c = some_start

-- `joining::join_others` meets its contract. Invariant: the row is joined to the concepts of some nodes, and the pair asked for is held.
use native.Mathlib.Omega.{arith}
use Rattle.witness_above.proofs.JoinedRows.{others_join, others_turn}
use Rattle.witness_above.proofs.joining.join_others.Goals.{then-x-asked+then-loses, else-x-asked}
use Rattle.witness_above.proofs.joining.join_others.Goals as goal

pub join-written-requires : goal.join-written-requires
join-written-requires c = others_join c.requires c.loop-x.invariant (omega arith)

pub loop-x-preserved : goal.loop-x-preserved
loop-x-preserved c = elim c.if-x-asked.branch [
  | then-x-asked+then-loses w ↦ rw (w.work-is, w.rows-is, w.numbers-is, w.written-is)
      (others_turn c.requires c.loop-x.invariant (omega arith) w.if-x-asked.true w.loses.ensures w.if-loses.true w.join-written.ensures)
  | else-x-asked w ↦ rw (w.work-is, w.rows-is, w.numbers-is, w.written-is) c.loop-x.invariant
]

pub returns-after-x-asked : goal.returns-after-x-asked
returns-after-x-asked c = elim c.if-x-asked.branch [
  | then-x-asked+then-loses w ↦ rw (w.work-is, w.rows-is, w.numbers-is, w.written-is)
      (others_turn c.requires c.loop-x.invariant (omega arith) w.if-x-asked.true w.loses.ensures w.if-loses.true w.join-written.ensures)
  | else-x-asked w ↦ rw (w.work-is, w.rows-is, w.numbers-is, w.written-is) c.loop-x.invariant
]

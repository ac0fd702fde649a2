-- `reach::expand` meets its contract. Invariant: what the pair leads to by the names before c is noted.
use Rattle.witness_above.proofs.Reaching.{expanded_more, expanded_skip}
use Rattle.witness_above.proofs.reach.expand.Goals.{then-has_edge, else-has_edge}
use Rattle.witness_above.proofs.reach.expand.Goals as goal

pub loop-c-preserved : goal.loop-c-preserved
loop-c-preserved c = elim c.if-has_edge.branch [
  | then-has_edge w ↦ rw w.work-is (expanded_more c.requires.reach c.requires.x_le_names.0 c.requires.x_le_names.1 c.loop-c-test.true c.loop-c.invariant c.has_edge.ensures w.follow.ensures)
  | else-has_edge w ↦ rw w.work-is (expanded_skip c.requires.reach c.requires.x_le_names.0 c.requires.x_le_names.1 c.loop-c-test.true c.loop-c.invariant c.has_edge.ensures w.if-has_edge.false)
]

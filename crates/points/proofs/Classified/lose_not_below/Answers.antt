-- `lose_not_below` meets its contract: of the roots before, the row lost those that do not lie below the node.
use native.Mathlib.Omega.{arith}
use Rattle.points.proofs.Grids.{adds_end, place_kept, place_lost}
use Rattle.points.proofs.Classified.lose_not_below.Goals.{then-not-is_above, else-not-is_above}
use Rattle.points.proofs.Classified.lose_not_below.Goals as goal

pub loop-root-preserved : goal.loop-root-preserved
loop-root-preserved c = elim c.if-not-is_above.branch [
  | then-not-is_above w ↦ rw w.lost-is (place_lost c.loop-root.invariant c.is_above.ensures w.if-not-is_above.true (omega arith) w.add.ensures)
  | else-not-is_above w ↦ rw w.lost-is (place_kept c.loop-root.invariant c.is_above.ensures w.if-not-is_above.false)
]

pub returns : goal.returns
returns c = record { adds = adds_end (omega arith) c.loop-root.invariant }

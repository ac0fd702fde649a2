-- `lose_nodes` meets its contract: of the nodes before, the owner's row lost those that do not lie below the atom.
use native.Mathlib.Omega.{arith}
use Rattle.points.proofs.Grids.{adds_end, place_kept, place_lost}
use Rattle.points.proofs.Classified.lose_nodes.Goals.{then-not-node_below, else-not-node_below}
use Rattle.points.proofs.Classified.lose_nodes.Goals as goal

pub loop-node-preserved : goal.loop-node-preserved
loop-node-preserved c = elim c.if-not-node_below.branch [
  | then-not-node_below w ↦ rw w.lost-is (place_lost c.loop-node.invariant c.node_below.ensures w.if-not-node_below.true (omega (arith, c.requires.of_atom.inclusive.few))
      (rw c.owner-row.ensures at w.add.ensures))
  | else-not-node_below w ↦ rw w.lost-is (place_kept c.loop-node.invariant c.node_below.ensures w.if-not-node_below.false)
]

pub returns : goal.returns
returns c = record { adds = adds_end (omega arith) c.loop-node.invariant }

-- `lose_nodes` meets its contract: of the nodes before, the owner's row lost those that do not lie below the atom.
use Rattle.points.specs.Grids.{most_nodes, Adds}
use Rattle.points.specs.Nodes.{NodeBelow}
use Rattle.points.proofs.Classified.lose_nodes.Given as goal

abbrev pub invariant-loop-node : goal.invariant-loop-node
invariant-loop-node l =
    let below = NodeBelow l.self l.subsumer.atom l.subsumer.idle.now in
    Adds most_nodes l.subsumer.atom.owner l.node (λ x. below x → ⊥) below l.initial.lost.rows l.lost.rows

-- `raise` meets its contract: of the names before, the owner's row gained those above the atom.
use Rattle.points.specs.Grids.{most_nodes, Adds}
use Rattle.points.specs.Above.{AtomBelow}
use Rattle.points.proofs.Classified.raise.Given as goal

abbrev pub invariant-loop-name : goal.invariant-loop-name
invariant-loop-name l =
    let below = AtomBelow l.self l.fn.atom l.initial.above in
    Adds most_nodes l.fn.atom.owner l.name below (λ y. below y → ⊥) l.initial.above.rows l.above.rows

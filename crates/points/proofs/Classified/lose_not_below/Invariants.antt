-- `lose_not_below` meets its contract: of the roots before, the row lost those that do not lie below the node.
use Prim.Native.Nat.{ℕ}
use Rattle.points.specs.Grids.{most_roots, Adds}
use Rattle.points.specs.Above.{RootBelow}
use Rattle.points.proofs.Classified.lose_not_below.Given as goal

abbrev pub invariant-loop-root : goal.invariant-loop-root
invariant-loop-root l =
    let below = λ (k : ℕ). RootBelow l.self l.subsumee.above.now k l.node in
    Adds most_roots l.row l.root (λ k. below k → ⊥) below l.initial.lost.rows l.lost.rows

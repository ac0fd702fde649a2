-- `add_outside` meets its contract: of the roots in the bytes before, the row gained those that the line does not have.
use Prim.Native.Nat.{◌*◌}
use Rattle.points.specs.Grids.{most_roots, Adds}
use Rattle.marks.specs.Lines.{Has}
use Rattle.points.proofs.Pairs.add_outside.Given as goal

abbrev pub invariant-loop-i : goal.invariant-loop-i
invariant-loop-i l = Adds most_roots l.row (8 * l.i) (λ k. Has l.line k → ⊥) (Has l.line) l.initial.self.rows l.self.rows

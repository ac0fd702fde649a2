-- `reach::expand_row` meets its contract. Invariant: no pair of x and a node before y is new, or there was one.
use Prim.Native.Nat.{◌<◌}
use mathlib.Core.Path.{◌≡◌}
use Rattle.witness_above.specs.Reach.{Swept}
use Rattle.witness_above.proofs.reach.expand_row.Given as goal

abbrev pub invariant-loop-y : goal.invariant-loop-y
invariant-loop-y l = Swept l.given (λ c d. (c ≡ l.x) × (d < l.y)) l.initial.work l.work l.changed

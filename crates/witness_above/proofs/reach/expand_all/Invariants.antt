-- `reach::expand_all` meets its contract. Invariant: no pair of a node before x is new, or there was one.
use Prim.Native.Nat.{◌<◌}
use Rattle.witness_above.specs.Reach.{Swept}
use Rattle.witness_above.proofs.reach.expand_all.Given as goal

abbrev pub invariant-loop-x : goal.invariant-loop-x
invariant-loop-x l = Swept l.given (λ c d. c < l.x) l.initial.work l.work l.changed

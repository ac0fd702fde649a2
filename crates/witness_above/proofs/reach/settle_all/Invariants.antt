-- `reach::settle_all` meets its contract. Each pass but the last gives some pair byte 1, which it had not.
use Prim.Native.Nat.{suc, ◌*◌, ◌-◌}
use Rattle.witness_above.specs.Left.{held}
use Rattle.witness_above.proofs.Reaching.{Spread}
use Rattle.witness_above.proofs.reach.settle_all.Given as goal

abbrev pub invariant-loop : goal.invariant-loop
invariant-loop l = Spread l.given l.initial.work l.work

abbrev pub decreases-loop : goal.decreases-loop
decreases-loop l = suc l.given.layout.names * suc l.given.layout.names - held l.work l.given.layout.marks l.given.layout.names

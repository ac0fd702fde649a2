-- The loop's invariant: what stands in the order stood there or is a node, and no more are put down than there were turns.
use Prim.Native.Nat.{◌+◌, ◌≤◌}
use Rattle.marks.specs.Orders.{NodesPlaced}
use Rattle.marks.proofs.order.Order.finish.Given as goal

abbrev pub invariant-loop : goal.invariant-loop
invariant-loop g l = NodesPlaced l.square.names l.initial.self l.self × (l.count ≤ l.from + l.counter)

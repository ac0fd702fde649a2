-- The loop's invariant: what stands in the order stood there or is a node, and no more are put down than there were turns.
use Prim.Native.Nat.{◌*◌, ◌≤◌}
use Rattle.marks.specs.Orders.{NodesPlaced}
use Rattle.marks.proofs.order.Order.sort.Given as goal

abbrev pub invariant-loop-root : goal.invariant-loop-root
invariant-loop-root g l = NodesPlaced l.square.names l.initial.self l.self × (l.count ≤ 4096 * l.root)

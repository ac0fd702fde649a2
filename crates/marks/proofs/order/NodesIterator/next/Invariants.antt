-- The walk goes on along the same square, up to the same end, and no place comes twice.
use Rattle.std.proofs.Common.{◌-◌, ◌≡◌, ◌≤◌}
use Rattle.marks.proofs.order.NodesIterator.next.Given as goal

abbrev pub invariant-loop-self : goal.invariant-loop-self
invariant-loop-self l = (l.self.names ≡ l.initial.self.names) × (l.self.end ≡ l.initial.self.end) × (l.initial.self.place ≤ l.self.place)

abbrev pub decreases-loop-self : goal.decreases-loop-self
decreases-loop-self l = l.self.end - l.self.place

-- The nodes that a line leaves open, one after the other. Invariant: a pass after which nothing is left to mark at the nodes before the next one.
use Prim.Native.Nat.{suc, ◌-◌}
use Rattle.marks.specs.Passes.{Pass, Below}
use Rattle.layout.specs.Layouts.{mark_square}
use Rattle.forward.specs.Rules.{Setting, Follows, EdgeCell}
use Rattle.forward.proofs.sweep.look_at_missing.Given as goal

abbrev pub invariant-loop-y : goal.invariant-loop-y
invariant-loop-y l =
    Setting l.given l.work
    × Pass (Follows l.given) (mark_square l.given.layout) (Below (EdgeCell l.given l.x l.role.0) l.next) l.initial.work l.work l.changed

abbrev pub decreases-loop-y : goal.decreases-loop-y
decreases-loop-y l = suc l.marks.names - l.next

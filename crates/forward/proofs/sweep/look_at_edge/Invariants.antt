-- The roles of the edge of x, one after the other. Invariant: a pass after which nothing is left to mark by the roles before the next one.
use Prim.Native.Nat.{◌-◌, ◌≤◌}
use Rattle.marks.specs.Passes.{Pass, Below}
use Rattle.layout.specs.Layouts.{mark_square}
use Rattle.forward.specs.Rules.{Setting, Follows, ByRole}
use Rattle.forward.proofs.sweep.look_at_edge.Given as goal

abbrev pub invariant-loop-role : goal.invariant-loop-role
invariant-loop-role l =
    (l.next ≤ 32)
    × Setting l.given l.work
    × Pass (Follows l.given) (mark_square l.given.layout) (Below (ByRole l.given l.x) l.next) l.initial.work l.work l.changed

abbrev pub decreases-loop-role : goal.decreases-loop-role
decreases-loop-role l = 32 - l.next

-- The loop's invariant: the marks grow by the rule.
use Prim.Native.Nat.{suc, ◌-◌}
use Rattle.marks.specs.Passes.{Grows}
use Rattle.layout.specs.Layouts.{mark_square}
use Rattle.backward.specs.Rules.{Over}
use Rattle.backward.proofs.consequences.put_over.Given as goal

abbrev pub invariant-loop-name : goal.invariant-loop-name
invariant-loop-name l = Grows (Over l.given l.x l.y) (mark_square l.given.layout) l.initial.work l.work

abbrev pub decreases-loop-name : goal.decreases-loop-name
decreases-loop-name l = suc l.given.layout.names - l.next

-- The edges that end at a node, one after the other. Invariant: marks that the rules allow were put.
use Prim.Native.Nat.{suc, ◌-◌}
use Rattle.forward.specs.Rules.{Setting, Followed}
use Rattle.forward.proofs.consequences.lose_edges.Given as goal

abbrev pub invariant-loop-x : goal.invariant-loop-x
invariant-loop-x l =
    Setting l.given l.work
    × Followed l.given l.initial.work l.work

abbrev pub decreases-loop-x : goal.decreases-loop-x
decreases-loop-x l = suc l.inclusions.names - l.next

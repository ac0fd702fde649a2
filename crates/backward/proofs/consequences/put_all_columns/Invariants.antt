-- The loop's invariant: the marks grow by the rule.
use Rattle.marks.specs.Columns.{Walkable}
use Rattle.backward.specs.Rules.{Followed}
use Rattle.backward.proofs.consequences.put_all_columns.Given as goal

abbrev pub invariant-loop-y : goal.invariant-loop-y
invariant-loop-y l = Walkable l.given.layout.names l.y-iterator × Followed l.given l.initial.work l.work

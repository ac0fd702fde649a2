-- The loop's invariant: the marks grow by the rule.
use Rattle.marks.specs.Passes.{none}
use Rattle.marks.proofs.Passes.{grows_further}
use Rattle.backward.proofs.consequences.put_by_filler.Goals as goal

pub loop-x-init : goal.loop-x-init
loop-x-init c = none

pub loop-x-preserved-then-is_filling : goal.loop-x-preserved-then-is_filling
loop-x-preserved-then-is_filling c = grows_further c.loop-x.invariant c.put_filled.ensures

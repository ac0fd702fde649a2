-- The loop's invariant: the marks grow by the rule.
use Rattle.marks.specs.Passes.{none}
use Rattle.marks.proofs.Passes.{grows_further}
use Rattle.backward.proofs.consequences.put_row.Goals as goal

pub loop-y-init : goal.loop-y-init
loop-y-init c = none

pub loop-y-preserved : goal.loop-y-preserved
loop-y-preserved c = grows_further c.loop-y.invariant c.put_lost.ensures

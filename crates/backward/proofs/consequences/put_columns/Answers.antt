-- The loop's invariant: the marks grow by the rule.
use Rattle.marks.specs.Passes.{none}
use Rattle.marks.proofs.Passes.{grows_further}
use Rattle.backward.proofs.consequences.put_columns.Goals as goal

pub loop-name-init : goal.loop-name-init
loop-name-init c = none

pub loop-name-preserved : goal.loop-name-preserved
loop-name-preserved c = grows_further c.loop-name.invariant c.put_lost.ensures

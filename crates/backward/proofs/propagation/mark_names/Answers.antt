-- The loop's invariant: the marks grow by the rule.
use Rattle.marks.specs.Passes.{none}
use Rattle.marks.proofs.Passes.{grows_further}
use Rattle.backward.proofs.propagation.mark_names.Goals as goal

pub loop-x-init : goal.loop-x-init
loop-x-init c = none

pub loop-x-preserved : goal.loop-x-preserved
loop-x-preserved c = grows_further c.loop-x.invariant c.look_at_name.ensures.grows

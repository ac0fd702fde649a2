-- All names, one after the other. Invariant: marks that names give were put.
use Rattle.marks.specs.Passes.{none}
use Rattle.marks.proofs.Passes.{grows_further}
use Rattle.forward.proofs.Tested.{named_stays}
use Rattle.forward.proofs.propagation.mark_names.Goals as goal

pub loop-x-init : goal.loop-x-init
loop-x-init c = (c.requires, none)

pub loop-x-preserved : goal.loop-x-preserved
loop-x-preserved c = (named_stays c.look_at_name.ensures.grows c.loop-x.invariant.0, grows_further c.loop-x.invariant.1 c.look_at_name.ensures.grows)

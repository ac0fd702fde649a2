-- No mark is put.
use Rattle.marks.specs.Passes.{none}
use Rattle.forward.proofs.sweep.LostAboveRules.wait_for_new.Goals as goal

pub returns : goal.returns
returns c = none

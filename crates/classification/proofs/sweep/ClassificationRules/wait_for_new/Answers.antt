-- Hints change no mark.
use Rattle.marks.proofs.Passes.{kept_grows}
use Rattle.classification.proofs.sweep.ClassificationRules.wait_for_new.Goals as goal

pub returns : goal.returns
returns c = kept_grows c.list_below.ensures

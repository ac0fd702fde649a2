-- Two marks, each by a rule of its own.
use Rattle.classification.proofs.Marking.{seeds}
use Rattle.classification.proofs.Classification.seed.Goals as goal

pub returns : goal.returns
returns c = seeds c.mark-itself.ensures c.mark-top.ensures

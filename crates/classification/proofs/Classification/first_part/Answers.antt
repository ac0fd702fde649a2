-- The first conjunct that the walk gives is marked where all are; where it gives none, ⊤ is.
use Rattle.classification.proofs.Marking.{needed}
use Rattle.classification.proofs.Classification.first_part.Goals as goal

pub returns : goal.returns
returns c = needed c.requires _ _ c.parts.ensures c.next.ensures.steps c.unwrap_or.ensures

-- The hints written first change no mark.
use Rattle.marks.proofs.Passes.{kept_grows, closed_further}
use Rattle.classification.proofs.Classification.close.Goals as goal

pub returns : goal.returns
returns c = closed_further (kept_grows c.prepare.ensures) c.close.ensures

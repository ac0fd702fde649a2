-- What is known of the row that is near, and then of the others.
use Rattle.marks.proofs.Passes.{pass_both}
use Rattle.marks.proofs.Lines.{empty_zeros}
use Rattle.marks.proofs.Handing.{near_others}
use Rattle.marks.proofs.inclusions.Handing.hand.Goals as goal

pub returns : goal.returns
returns c = pass_both (near_others (empty_zeros 128)) c.hand_near-first.ensures c.hand_others-others.ensures

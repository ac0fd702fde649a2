-- What was seen is no mark; the rest is closed by the rules.
use Rattle.marks.proofs.Passes.{kept_grows, closed_further}
use Rattle.backward.proofs.sweep.close.Goals as goal

pub returns : goal.returns
returns c = closed_further (kept_grows (rw c.mark_square.ensures at c.see_all.ensures)) c.close.ensures

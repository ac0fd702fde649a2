-- `tell` meets its contract: a byte is counted on the left, on the right or on both sides, so the counts add up.
use Rattle.branches.proofs.Counts.{told}
use Rattle.branches.proofs.row.tell.Goals as goal

pub returns : goal.returns
returns c = told _ _ _ c.count-chosen.ensures.0 c.count-left_only.ensures.0 c.count-right_only.ensures.0 c.count-both.ensures.0 c.share.ensures

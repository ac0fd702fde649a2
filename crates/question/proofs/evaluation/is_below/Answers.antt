-- `is_below` meets its contract: each call gives what the next one asks, and root 0 is the whole concept.
use Rattle.marks.proofs.Lines.{empty_zeros}
use Rattle.question.proofs.Verdicts.{verdict}
use Rattle.question.proofs.evaluation.is_below.Goals as goal

pub fill_above-requires : goal.fill_above-requires
fill_above-requires c = record { world = c.requires.world; shape = c.requires.from; blank = empty_zeros 16384 }

pub sift_by_names-requires : goal.sift_by_names-requires
sift_by_names-requires c = record { world = c.requires.world; from = c.requires.from; filled = c.fill_above.ensures; shape = c.requires.shape; blank = empty_zeros 2048 }

pub lose_all-requires : goal.lose_all-requires
lose_all-requires c = record { world = c.requires.world; from = c.requires.from; shape = c.requires.shape; blank = empty_zeros 16384; names = c.sift_by_names.ensures }

pub returns : goal.returns
returns c = verdict c.lose_all.ensures c.requires.from.whole c.has-lost.ensures

-- Only hints change.
use Rattle.marks.proofs.Squares.{frame_area, kept_further}
use Rattle.classification.proofs.Classification.prepare.Goals as goal

pub list-requires : goal.list-requires
list-requires c = record { shaped = c.requires.shaped; area = c.requires.area }

pub see_all-requires : goal.see_all-requires
see_all-requires c = frame_area c.list.ensures.extends.frame c.requires.area

pub returns : goal.returns
returns c = kept_further c.list.ensures c.see_all.ensures

-- Only hints change.
use Rattle.marks.proofs.Squares.{kept_same}
use Rattle.classification.proofs.Marking.{shaped_row}
use Rattle.classification.proofs.Classification.list.Goals as goal

pub loop-x-init : goal.loop-x-init
loop-x-init c = kept_same

pub kind-requires : goal.kind-requires
kind-requires c = shaped_row c.requires.shaped c.loop-x-test.true

pub returns : goal.returns
returns c = c.loop-x.invariant

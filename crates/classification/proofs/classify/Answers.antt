-- The marks put at first are growth, and the passes after them close it.
use Rattle.marks.proofs.Passes.{closed_further}
use Rattle.classification.proofs.Marking.{setting_stays}
use Rattle.classification.proofs.Meaning.{setting, classified}
use Rattle.classification.proofs.classify.Goals as goal

pub begin-requires : goal.begin-requires
begin-requires c = setting c.requires

pub close-requires : goal.close-requires
close-requires c = setting_stays c.begin.ensures (setting c.requires)

pub returns : goal.returns
returns c = classified c.requires (closed_further c.begin.ensures c.close.ensures)

-- `lacks_work` meets its contract: four squares are as long as the work memory of a comparison.
use Rattle.meanings.proofs.Judging.{work_length_lem}
use Rattle.meanings.proofs.lacks_work.Goals as goal

pub returns : goal.returns
returns c = rw (work_length_lem _ _ c.work_length.ensures.0)

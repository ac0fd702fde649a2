-- Names that are not too many have the work memory of four squares.
use native.Mathlib.Omega.{arith}
use Rattle.exported.proofs.Outcomes.{work_given}
use Rattle.exported.proofs.berrytick_work_length.Goals as goal

pub returns : goal.returns
returns c = work_given (omega arith) c.work_length.ensures.0

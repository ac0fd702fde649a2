-- `put_restriction` meets its contract: the role, and then the filler.
use Rattle.output.proofs.Puts.{put_as, put_then}
use Rattle.practice.proofs.Pieces.{restriction_bytes}
use Rattle.practice.proofs.Practice.put_restriction.Goals as goal

pub returns-clause-put : goal.returns-clause-put
returns-clause-put c = put_as (restriction_bytes _ _ _ _ _ _ c.draw-role.ensures.choice (rw c.draw-role.ensures.state at c.draw-filler.ensures.choice) c.filler_number-number.ensures)
    (put_then c.put_number-ruled.ensures c.put_number.ensures)

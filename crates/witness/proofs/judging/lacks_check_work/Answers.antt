-- `lacks_check_work` meets its contract: too little for a comparison is too little, and else the rest divided tells.
use Rattle.witness.proofs.Judgements.{check_short, long_enough, by_division}
use Rattle.witness.proofs.judging.lacks_check_work.Goals as goal

pub returns-then-lacks_work : goal.returns-then-lacks_work
returns-then-lacks_work c = check_short _ _ _ c.if-lacks_work.ensures

pub overflow_sub-rest : goal.overflow_sub-rest
overflow_sub-rest c = long_enough _ _ 0 c.work_length.ensures.0 c.if-lacks_work.ensures

pub returns : goal.returns
returns c = by_division _ _ _ c.work_length.ensures.0 c.if-lacks_work.ensures

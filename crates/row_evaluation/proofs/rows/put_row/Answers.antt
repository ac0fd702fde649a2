-- `rows::put_row` meets its contract: three numbers are written.
use Rattle.row_evaluation.proofs.WrittenRows.{row_put}
use Rattle.row_evaluation.proofs.rows.put_row.Goals as goal

pub returns : goal.returns
returns c = row_put _ _ _ _ _ c.requires.inside c.numbers-numbers.ensures

-- `check_concept` keeps its promise: where reading refuses, where what is lent does not serve, and where the rows are checked.
use Rattle.release.proofs.Refusing.{passed}
use Rattle.release.proofs.Rows.{blank_table}
use Rattle.meanings.proofs.Promise.{both_agree, few_counts}
use Rattle.witness.proofs.CheckedRows.{not_read, not_lent, to_check, checked_as}
use Rattle.witness.proofs.checking.check_concept.Goals as goal

pub read_releases-requires-clause-first_blank : goal.read_releases-requires-clause-first_blank
read_releases-requires-clause-first_blank c = blank_table

pub read_releases-requires-clause-second_blank : goal.read_releases-requires-clause-second_blank
read_releases-requires-clause-second_blank c = blank_table

pub returns-in_err-counts : goal.returns-in_err-counts
returns-in_err-counts c = rw (passed _ c.in_err-counts.field-0.0 c.from_residual.ensures.1) (not_read _ _ _ _ _ c.in_err-counts.ensures)

pub judge_check-requires : goal.judge_check-requires
judge_check-requires c = (few_counts (both_agree c.in_ok-counts.ensures)).0

pub returns-in_err-judge_check : goal.returns-in_err-judge_check
returns-in_err-judge_check c =
    rw (passed _ c.in_err-judge_check.field-0.0 c.from_residual-in_err-judge_check.ensures.1) (not_lent _ _ _ _ _ c.in_ok-counts.ensures c.row_count.ensures.0 c.in_err-judge_check.ensures)

pub check_rows-requires : goal.check_rows-requires
check_rows-requires c = to_check _ 0 0 _ _ c.in_ok-counts.ensures c.row_count.ensures.0 c.in_ok-judge_check.ensures

pub returns : goal.returns
returns c = checked_as _ _ _ _ _ c.in_ok-counts.ensures c.row_count.ensures.0 c.in_ok-judge_check.ensures c.check_rows.ensures

-- `show_concept` keeps its promise: where reading refuses, where what is lent does not serve, and where the rows are written.
use Rattle.release.proofs.Refusing.{passed}
use Rattle.release.proofs.Rows.{blank_table}
use Rattle.meanings.proofs.Promise.{both_agree, few_counts}
use Rattle.witness.specs.declared.refusals.ShowRefusal.TheVariants.{Comparison}
use Rattle.witness.proofs.Writing.{not_read, not_lent, to_show, shown_as}
use Rattle.witness.proofs.showing.show_concept.Goals as goal

pub read_releases-requires-clause-first_blank : goal.read_releases-requires-clause-first_blank
read_releases-requires-clause-first_blank c = blank_table

pub read_releases-requires-clause-second_blank : goal.read_releases-requires-clause-second_blank
read_releases-requires-clause-second_blank c = blank_table

pub returns-in_err-counts : goal.returns-in_err-counts
returns-in_err-counts c = rw (passed _ (Comparison c.in_err-counts.field-0.0) c.from_residual.ensures.1) (not_read _ _ _ _ _ c.in_err-counts.ensures)

pub judge_show-requires : goal.judge_show-requires
judge_show-requires c = (few_counts (both_agree c.in_ok-counts.ensures)).0

pub returns-in_err-judge_show : goal.returns-in_err-judge_show
returns-in_err-judge_show c =
    rw (passed _ c.in_err-judge_show.field-0.0 c.from_residual-in_err-judge_show.ensures.1) (not_lent _ _ _ _ _ c.in_ok-counts.ensures c.row_count.ensures.0 c.in_err-judge_show.ensures)

pub show_rows-requires : goal.show_rows-requires
show_rows-requires c = to_show _ 0 0 _ _ c.in_ok-counts.ensures c.row_count.ensures.0 c.in_ok-judge_show.ensures

pub returns : goal.returns
returns c = shown_as _ _ _ _ _ c.in_ok-counts.ensures c.row_count.ensures.0 c.in_ok-judge_show.ensures c.show_rows.ensures

-- `compare_branches` keeps its promise: where reading refuses, where the number is no rule's, where what is lent does not serve, and where the rows
-- are filled.
use Rattle.std.proofs.Common.{sym}
use Rattle.release.proofs.Refusing.{passed}
use Rattle.release.proofs.Rows.{blank_table}
use Rattle.meanings.proofs.Promise.{both_agree, few_counts}
use Rattle.branches.specs.declared.refusals.SheetRefusal.TheVariants.{Comparison}
use Rattle.branches.proofs.Shares.{ruled}
use Rattle.branches.proofs.Sheets.{not_read, no_rule, not_lent, rows_lent, rows_long, fits, says}
use Rattle.branches.proofs.compare_branches.Goals as goal

pub read_releases-requires-clause-first_blank : goal.read_releases-requires-clause-first_blank
read_releases-requires-clause-first_blank c = blank_table

pub read_releases-requires-clause-second_blank : goal.read_releases-requires-clause-second_blank
read_releases-requires-clause-second_blank c = blank_table

pub returns-in_err-counts : goal.returns-in_err-counts
returns-in_err-counts c = rw (passed _ (Comparison c.in_err-counts.field-0.0) c.from_residual.ensures.1) (not_read _ _ _ _ _ c.in_err-counts.ensures)

pub returns-in_err-rounding : goal.returns-in_err-rounding
returns-in_err-rounding c =
    rw (passed _ c.in_err-rounding.field-0.0 c.from_residual-in_err-rounding.ensures.1) (no_rule _ _ _ _ _ c.in_ok-counts.ensures c.in_err-rounding.ensures)

pub judge-requires : goal.judge-requires
judge-requires c = few_counts (both_agree c.in_ok-counts.ensures)

pub returns-in_err-counts-2 : goal.returns-in_err-counts-2
returns-in_err-counts-2 c =
    rw (passed _ c.in_err-counts-2.field-0.0 c.from_residual-in_err-counts-2.ensures.1) (not_lent _ _ _ _ _ c.in_ok-counts.ensures (ruled _ c.in_ok-rounding.ensures) c.in_err-counts-2.ensures)

pub slice_bounds-fill-end : goal.slice_bounds-fill-end
slice_bounds-fill-end c = rows_lent c.args.signatures.now _ c.args.rule c.args.rows.now c.args.work.now c.in_ok-counts.ensures (ruled _ c.in_ok-rounding.ensures) c.in_ok-counts-2.ensures

pub slice_bounds-fill-end-2 : goal.slice_bounds-fill-end-2
slice_bounds-fill-end-2 c = sym (rows_long c.args.signatures.now _ c.args.rule c.args.rows.now c.args.work.now c.in_ok-counts.ensures (ruled _ c.in_ok-rounding.ensures) c.in_ok-counts-2.ensures)

pub fill-requires : goal.fill-requires
fill-requires c = fits _ _ c.args.rule c.args.rows.now _ c.in_ok-counts.ensures (ruled _ c.in_ok-rounding.ensures) c.in_ok-counts-2.ensures

pub returns : goal.returns
returns c =
    says _ _ _ c.args.rows.now _ c.in_ok-counts.ensures (ruled _ c.in_ok-rounding.ensures) c.in_ok-counts-2.ensures (rw c.in_ok-rounding.ensures at c.fill.ensures)

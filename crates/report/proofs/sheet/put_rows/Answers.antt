-- `put_rows` meets its contract: the lines of the branches so far are put.
use Rattle.std.proofs.Common.{arith}
use Rattle.output.proofs.Puts.{put_none, put_as, put_then}
use Rattle.report.specs.Sheets.{row_lines}
use Rattle.report.proofs.Sheets.{rows_more}
use Rattle.report.proofs.sheet.put_rows.Goals as goal

pub loop-branch-init : goal.loop-branch-init
unfolding row_lines
loop-branch-init c = put_none (omega arith) (omega arith)

pub loop-branch-preserved : goal.loop-branch-preserved
loop-branch-preserved c = put_as (rows_more c.args.rows.now c.loop-branch.branch (omega arith)) (put_then c.loop-branch.invariant c.put_row-next.ensures)

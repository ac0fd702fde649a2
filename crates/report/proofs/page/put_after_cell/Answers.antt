-- `put_after_cell` meets its contract: the end of the line after its last cell, else nothing.
use Rattle.std.proofs.Common.{arith, sym}
use Rattle.output.proofs.Puts.{put_none, put_as}
use Rattle.report.proofs.PageLines.{cell_ended, cell_followed}
use Rattle.report.proofs.page.put_after_cell.Goals as goal

pub returns-then-cells-eq0 : goal.returns-then-cells-eq0
returns-then-cells-eq0 c = put_as (sym (cell_ended c.args.cells c.if-cells-eq0.true)) c.put_line_end.ensures

pub returns : goal.returns
returns c = put_as (sym (cell_followed c.args.cells c.if-cells-eq0.false)) (put_none (omega arith) (omega arith))

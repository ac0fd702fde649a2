-- `put_rest` meets its contract: an unfinished line is filled and ended.
use Rattle.std.proofs.Common.{arith, sym}
use Rattle.output.proofs.Puts.{put_none, put_as, put_then}
use Rattle.report.proofs.PageLines.{line_ended}
use Rattle.report.proofs.PageWriting.{rest_pieces}
use Rattle.report.proofs.page.put_rest.Goals as goal

pub returns-then-over-eq0 : goal.returns-then-over-eq0
returns-then-over-eq0 c = put_as (sym (line_ended c.args.cells c.if-over-eq0.true)) (put_none (omega arith) (omega arith))

pub returns : goal.returns
returns c = put_as (rest_pieces c.args.cells c.if-over-eq0.false) (put_then c.put_spaces-next.ensures c.put_line_end.ensures)

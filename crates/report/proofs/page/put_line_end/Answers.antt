-- `put_line_end` meets its contract: a newline, and byte 12 after each 50th line.
use Rattle.output.proofs.Puts.{put_as, put_then}
use Rattle.report.proofs.PageWriting.{line_broken, line_unbroken}
use Rattle.report.proofs.page.put_line_end.Goals as goal

pub returns-then-line-eq0 : goal.returns-then-line-eq0
returns-then-line-eq0 c = put_as (line_broken c.args.line c.if-line-eq0.true) (put_then c.put_byte-next.ensures c.put_byte.ensures)

pub returns : goal.returns
returns c = put_as (line_unbroken c.args.line c.if-line-eq0.false) c.put_byte-next.ensures

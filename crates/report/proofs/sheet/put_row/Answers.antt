-- `put_row` meets its contract: its pieces are put one after the other.
use Rattle.output.proofs.Puts.{put_then}
use Rattle.report.specs.Sheets.{row_line}
use Rattle.report.proofs.sheet.put_row.Goals as goal

pub returns : goal.returns
unfolding row_line
returns c =
    put_then c.put_worded-first.ensures (put_then c.put_worded-second.ensures (put_then c.put_worded-third.ensures
    (put_then c.put_worded-fourth.ensures (put_then c.put_worded-fifth.ensures c.put_byte.ensures))))

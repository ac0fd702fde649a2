-- `Report::put` meets its contract: its first line, the lines of names and its last line are put one after the other.
use Rattle.output.proofs.Puts.{put_then}
use Rattle.report.specs.Texts.{report_with}
use Rattle.report.proofs.lines.Report.put.Goals as goal

pub returns : goal.returns
unfolding report_with
returns c = put_then c.put_two_numbers-first.ensures (put_then c.put_lines-second.ensures c.put_two_numbers.ensures)

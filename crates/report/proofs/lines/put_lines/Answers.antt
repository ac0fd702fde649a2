-- `put_lines` meets its contract: the lines of the names so far are put.
use Rattle.std.proofs.Common.{arith}
use Rattle.output.proofs.Puts.{put_none, put_as, put_then}
use Rattle.report.specs.Texts.{lines}
use Rattle.report.proofs.Entries.{lines_more}
use Rattle.report.proofs.lines.put_lines.Goals as goal

pub loop-name-init : goal.loop-name-init
unfolding lines
loop-name-init c = put_none (omega arith) (omega arith)

pub loop-name-preserved : goal.loop-name-preserved
loop-name-preserved c = put_as (lines_more c.args.bytes.now c.loop-name.name (omega arith)) (put_then c.loop-name.invariant c.put_entry-next.ensures)

-- `put_entry` meets its contract: nothing for a name that is not reported, else its line, piece by piece.
use Rattle.std.proofs.Common.{arith, sym}
use Rattle.output.proofs.Puts.{put_none, put_as, put_then}
use Rattle.report.proofs.Entries.{entry_nothing, side_line}
use Rattle.report.proofs.lines.put_entry.Goals as goal

pub returns-in_default : goal.returns-in_default
returns-in_default c = put_as (sym (entry_nothing c.args.name.0 c.args.byte c.in_default.ensures)) (put_none (omega arith) (omega arith))

pub returns : goal.returns
returns c =
    put_as (side_line c.args.name.0 c.args.byte c.in-Some.side c.letter.result c.letter.ensures c.in-Some.ensures)
    (put_then c.put_three_digits-first.ensures (put_then c.put_byte-second.ensures (put_then c.put_byte-third.ensures c.put_byte.ensures)))

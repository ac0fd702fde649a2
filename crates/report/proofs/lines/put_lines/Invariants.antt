-- `put_lines` meets its contract: the lines of the names so far are put.
use Rattle.std.proofs.Common.{take}
use Rattle.report.specs.Texts.{lines}
use Rattle.output.specs.Places.{Put}
use Rattle.report.proofs.lines.put_lines.Given as goal

abbrev pub invariant-loop-name : goal.invariant-loop-name
invariant-loop-name l = Put l.initial.output l.at (lines 0 (take l.name l.bytes)) l.output l.next

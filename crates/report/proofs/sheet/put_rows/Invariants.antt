-- `put_rows` meets its contract: the lines of the branches so far are put.
use Rattle.std.proofs.Common.{take}
use Rattle.report.specs.Sheets.{row_lines}
use Rattle.output.specs.Places.{Put}
use Rattle.report.proofs.sheet.put_rows.Given as goal

abbrev pub invariant-loop-branch : goal.invariant-loop-branch
invariant-loop-branch l = Put l.initial.output 0 (row_lines 0 (take l.branch l.rows)) l.output l.next

-- `write_sheet` meets its contract: the line of a refusal, or the lines of the rows told, whole or not at all.
use Rattle.std.proofs.Common.{rules}
use Rattle.report.specs.Sheets.{sheet_text}
use Rattle.report.proofs.Sheets.{branches_told}
use Rattle.report.proofs.sheet.write_sheet.Goals as goal

pub returns-in-Err : goal.returns-in-Err
unfolding sheet_text
returns-in-Err g c = rw (c.in-Err.is, sheet_text) c.write_refusal.ensures

pub returns : goal.returns
unfolding sheet_text
returns g c =
    let told = branches_told c.args.count c.min.result c.min.ensures in
    rw (c.in_default.is, sheet_text) (rw (← told) (c.write_whole.ensures _ (λ o q next e. search rules)))

-- The sheet prints what filling its rows promises: the text that was written of them, for as many signatures as the bytes hold.
use mathlib.Core.Path.{refl}
use Rattle.programs.proofs.Printed.{sheet_prints, prints_within}
use Rattle.programs.proofs.sheet.Goals as goal

pub returns : goal.returns
returns c =
    let prints = sheet_prints refl c.signature_count-count.ensures c.rule_named-rule.ensures c.fill_rows-filled.ensures c.write_sheet.ensures c.ok.ensures.value in
    record { prints = prints; within = prints_within _ _ _ _ c.write_sheet.auto.output prints.prints }

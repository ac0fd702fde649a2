-- The refusals to write a text by number and side.
use Rattle.release.specs.Refusals.{Numbers}
use Rattle.report.specs.declared.refusals.PageRefusal.{PageRefusal}
use Rattle.report.specs.declared.refusals.ReportRefusal.{ReportRefusal}
use Rattle.report.specs.declared.refusals.ReportRefusal.TheVariants.{ShortResult, ShortOutput}

-- "31 result shorter than n", and a number of our own for the output; both concern neither release
abbrev pub report_refusal : ReportRefusal → Numbers
report_refusal ShortResult = record { number = 31; side = 0 }
report_refusal ShortOutput = record { number = 33; side = 0 }

-- a page: "51, a result over 1,023 bytes or with a byte above 3, or an output shorter than the page", by which neither release is concerned
abbrev pub page_refusal : PageRefusal → Numbers
page_refusal refusal = record { number = 51; side = 0 }

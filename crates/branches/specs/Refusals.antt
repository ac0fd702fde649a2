-- The refusals of a sheet by number and side.
use Rattle.release.specs.Refusals.{Numbers}
use Rattle.meanings.specs.Refusals.{compare_refusal}
use Rattle.branches.specs.declared.refusals.SheetRefusal.{SheetRefusal}
use Rattle.branches.specs.declared.refusals.SheetRefusal.TheVariants.{Comparison, NoRule, ManyBranches, FewRows}

abbrev pub sheet_refusal : SheetRefusal → Numbers
sheet_refusal (Comparison r) = compare_refusal r
sheet_refusal NoRule = record { number = 53; side = 0 }
sheet_refusal ManyBranches = record { number = 42; side = 0 }
sheet_refusal FewRows = record { number = 43; side = 0 }

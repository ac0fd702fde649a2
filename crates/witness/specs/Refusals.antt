-- The refusals of the station by number and side.
use Rattle.release.specs.Refusals.{Numbers}
use Rattle.meanings.specs.Refusals.{compare_refusal}
use Rattle.witness.specs.declared.refusals.ShowRefusal.{ShowRefusal}
use Rattle.witness.specs.declared.refusals.ShowRefusal.TheVariants.{Comparison, FewRows}

abbrev pub show_refusal : ShowRefusal → Numbers
show_refusal (Comparison r) = compare_refusal r
show_refusal FewRows = record { number = 44; side = 0 }

-- The refusals of a comparison by number and side.
use Rattle.release.specs.Refusals.{Numbers, file_number}
use Rattle.signature.specs.Bytes.{signature_refusal}
use Rattle.meanings.specs.declared.refusals.CompareRefusal.{CompareRefusal}
use Rattle.meanings.specs.declared.refusals.CompareRefusal.TheVariants.{First, Second, DifferentCounts, Signature, ShortResult, ShortRoleResult, ShortWork}

abbrev pub compare_refusal : CompareRefusal → Numbers
compare_refusal (First r) = record { number = file_number r; side = 1 }
compare_refusal (Second r) = record { number = file_number r; side = 2 }
compare_refusal DifferentCounts = record { number = 16; side = 0 }
compare_refusal (Signature r) = signature_refusal r
compare_refusal ShortResult = record { number = 31; side = 0 }
compare_refusal ShortRoleResult = record { number = 50; side = 0 }
compare_refusal ShortWork = record { number = 32; side = 0 }

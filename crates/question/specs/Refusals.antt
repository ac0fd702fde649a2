-- The refusals of a question, as callers of other languages are told them.
--   ask_refusal r       the number of a refusal and its side: 1 for the release and for C, 2 for D, 0 for the memory
use Rattle.release.specs.Refusals.{Numbers, file_refusal}
use Rattle.question.specs.declared.refusals.AskRefusal.{AskRefusal}
use Rattle.question.specs.declared.refusals.AskRefusal.TheVariants.{Release, WrongBelow, WrongAbove, ShortWork}

abbrev pub ask_refusal : AskRefusal → Numbers
ask_refusal (Release refusal) = file_refusal refusal
ask_refusal WrongBelow = record { number = 19; side = 1 }
ask_refusal WrongAbove = record { number = 19; side = 2 }
ask_refusal ShortWork = record { number = 32; side = 0 }

-- The refusals to make a practice release by number; they concern no release.
use Rattle.release.specs.Refusals.{Numbers}
use Rattle.practice.specs.declared.refusals.PracticeRefusal.{PracticeRefusal}
use Rattle.practice.specs.declared.refusals.PracticeRefusal.TheVariants.{ManyNames, ManyRoles, ShortOutput}

-- "4 more names than version 1 can have", "5 more roles than a release can have", "52 output shorter than the file"
abbrev pub practice_refusal : PracticeRefusal → Numbers
practice_refusal ManyNames = record { number = 4; side = 0 }
practice_refusal ManyRoles = record { number = 5; side = 0 }
practice_refusal ShortOutput = record { number = 52; side = 0 }

-- The refusals of rewriting as callers of other languages are told them: 3 for a version in which nothing is written, the release's own on side
-- 1, then 40 and 41.
use Rattle.release.specs.Refusals.{Numbers, file_refusal}
use Rattle.rewriting.specs.declared.refusals.RewriteRefusal.{RewriteRefusal}
use Rattle.rewriting.specs.declared.refusals.RewriteRefusal.TheVariants.{NoVersion, File, ManyNames, ShortOutput}

abbrev pub rewrite_refusal : RewriteRefusal → Numbers
rewrite_refusal NoVersion = record { number = 3; side = 0 }
rewrite_refusal (File r) = file_refusal r
rewrite_refusal ManyNames = record { number = 40; side = 1 }
rewrite_refusal ShortOutput = record { number = 41; side = 0 }

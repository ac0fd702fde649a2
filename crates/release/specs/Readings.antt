-- What checking a release answers, by what the file says, with the numbers and values of docs/FORMAT.md.
--   counts_in s      n, m and a
--   checked s        accepted with n, m and a, or the refusal with side 1
use Rattle.std.specs.Prelude.{List, ℕ, Result}
use Rattle.release.specs.Files.{fault, names_of, roles_of, count_of}
use Rattle.release.specs.Refusals.{Numbers, answer}
use Rattle.release.specs.declared.Counts.{Counts}

abbrev pub counts_in : List ℕ → Counts
counts_in s = record { names = names_of s; roles = roles_of s; axioms = count_of s }

unfoldable pub checked : List ℕ → Result Counts Numbers
checked s = answer 1 (fault s) (counts_in s)

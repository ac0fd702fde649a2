-- Making a practice release.
--   answer_to seed n m o              what the call answers, where o is the output: the length written, or the refusal
--   Makes seed n m o output answer    the call answers this, and the output, o before, is `output` after it
use Rattle.std.specs.Prelude.{List, ℕ, ltb, Result, Err}
use Rattle.el.specs.Lists.{pick}
use Rattle.release.specs.Files.{most_names_of, most_roles}
use Rattle.output.specs.Written.{fitted, WrittenAs}
use Rattle.practice.specs.Practice.{practice_file}
use Rattle.practice.specs.declared.refusals.PracticeRefusal.{PracticeRefusal}
use Rattle.practice.specs.declared.refusals.PracticeRefusal.TheVariants.{ManyNames, ManyRoles, ShortOutput}

unfoldable pub answer_to : ℕ → ℕ → ℕ → List ℕ → Result ℕ PracticeRefusal
answer_to seed n m o = pick (ltb (most_names_of 1) n) (Err ManyNames) (pick (ltb most_roles m) (Err ManyRoles) (fitted ShortOutput (practice_file seed n m) o))

pub record Makes (seed n m : ℕ) (o output : List ℕ) (answer : Result ℕ PracticeRefusal) : Type 0 where
  pub written : WrittenAs (answer_to seed n m o) (practice_file seed n m) o output answer

-- The concept shown and its check as C and Rust see them: the promises of the calls in Rattle, and the numbers that stand for their answers.
use Rattle.std.specs.Prelude.{Bool, List, ℕ, Result}
use Rattle.release.specs.Refusals.{told}
use Rattle.meanings.specs.Refusals.{compare_refusal}
use Rattle.meanings.specs.declared.refusals.CompareRefusal.{CompareRefusal}
use Rattle.witness.specs.Refusals.{show_refusal}
use Rattle.witness.specs.Showing.{ShownAs}
use Rattle.witness.specs.Checking.{CheckedAs}
use Rattle.witness.specs.declared.refusals.ShowRefusal.{ShowRefusal}
use Rattle.exported.specs.Codes.{Returns, yes_or_no}

-- a concept shown: how many rows are written
pub record ShowConceptReturns (s t g : List ℕ) (side a : ℕ) (ys zs : List ℕ) (before after : ℕ) (w w2 : List ℕ) (r : ℕ) : Type 0 where
  pub answer : Result ℕ ShowRefusal
  pub says : ShownAs s t g side a ys zs w w2 answer
  pub returns : Returns (told show_refusal answer) before after r

-- a concept checked
pub record CheckConceptReturns (s t g : List ℕ) (side a : ℕ) (ys : List ℕ) (before after : ℕ) (w w2 : List ℕ) (r : ℕ) : Type 0 where
  pub answer : Result Bool CompareRefusal
  pub says : CheckedAs s t g side a ys w w2 answer
  pub returns : Returns (yes_or_no (told compare_refusal answer)) before after r

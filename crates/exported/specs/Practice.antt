-- Practice releases as C and Rust see them: the promise of the call in Rattle, and the numbers that stand for its answer.
use Rattle.std.specs.Prelude.{List, ℕ, Result}
use Rattle.release.specs.Refusals.{told}
use Rattle.practice.specs.Making.{Makes}
use Rattle.practice.specs.Refusals.{practice_refusal}
use Rattle.practice.specs.declared.refusals.PracticeRefusal.{PracticeRefusal}
use Rattle.exported.specs.Codes.{Returns}

-- a practice release: the length of its file
pub record PracticeReturns (seed n m : ℕ) (o q : List ℕ) (before after r : ℕ) : Type 0 where
  pub answer : Result ℕ PracticeRefusal
  pub says : Makes seed n m o q answer
  pub returns : Returns (told practice_refusal answer) before after r

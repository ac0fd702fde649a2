-- The page for the desk wall as C and Rust see it: the promises of the calls in Rattle, and the numbers that stand for their answers.
use Rattle.std.specs.Prelude.{List, ℕ, Result}
use Rattle.release.specs.Refusals.{told}
use Rattle.output.specs.Written.{WrittenAs}
use Rattle.report.specs.Pages.{page}
use Rattle.report.specs.PagesWritten.{length_answer, page_answer}
use Rattle.report.specs.Refusals.{page_refusal}
use Rattle.report.specs.declared.refusals.PageRefusal.{PageRefusal}
use Rattle.exported.specs.Codes.{Returns}

-- the length of a page
abbrev pub PageLengthReturns : List ℕ → ℕ → ℕ → ℕ → Type 0
PageLengthReturns bs before after r = Returns (told page_refusal (length_answer bs)) before after r

-- a page written: its length
pub record PageReturns (bs o q : List ℕ) (before after r : ℕ) : Type 0 where
  pub answer : Result ℕ PageRefusal
  pub says : WrittenAs (page_answer bs o) (page bs) o q answer
  pub returns : Returns (told page_refusal answer) before after r

-- What writing a page answers, and what asking for its length does.
--   is_result bs           bs can be the result of a comparison: no more bytes than there can be names, and none above 3
--   length_answer bs       what is answered how long the page of bs is
--   page_answer bs o       what writing it to the output o answers
use Rattle.std.specs.Prelude.{Bool, ◌&&◌, List, ℕ, leb, length, Result, Ok, Err}
use Rattle.std.specs.List.{list_all}
use Rattle.el.specs.Lists.{pick}
use Rattle.release.specs.Files.{most_names}
use Rattle.output.specs.Written.{fitted}
use Rattle.report.specs.Pages.{page}
use Rattle.report.specs.declared.refusals.PageRefusal.{PageRefusal}
use Rattle.report.specs.declared.refusals.PageRefusal.TheVariants.{NoResult, ShortOutput}

unfoldable pub is_result : List ℕ → Bool
is_result bs = leb (length bs) most_names && list_all (λ b. leb b 3) bs

unfoldable pub length_answer : List ℕ → Result ℕ PageRefusal
length_answer bs = pick (is_result bs) (Ok (length (page bs))) (Err NoResult)

unfoldable pub page_answer : List ℕ → List ℕ → Result ℕ PageRefusal
page_answer bs o = pick (is_result bs) (fitted ShortOutput (page bs) o) (Err NoResult)

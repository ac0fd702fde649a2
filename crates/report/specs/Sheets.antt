-- The text of a sheet, in ASCII: a line for each branch, or the one line of a refusal.
--   row_line i r            the line of branch i with the row r
--   row_lines i rs          the lines of the rows rs, of the branches from i on
--   first_lines n rs        the lines of the first n of the rows rs
--   branches_of q           q, or 64 where q is above 64: an accepted sheet never has more branches
--   sheet_text a q rs       the text of a sheet of q branches with the answer a and the rows rs
--   SheetWritten a q rs o p r      writing it answers r, and the output, o before, is p after it
use Rattle.std.specs.Prelude.{List, [], ◌∷◌, ◌++◌, ℕ, suc, ltb, take, Result, Ok, Err}
use Rattle.el.specs.Lists.{pick}
use Rattle.branches.specs.Sheets.{most_branches}
use Rattle.branches.specs.declared.row.Row.{Row}
use Rattle.meanings.specs.declared.Compared.{Compared}
use Rattle.release.specs.Refusals.{Numbers}
use Rattle.report.specs.declared.refusals.ReportRefusal.{ReportRefusal}
use Rattle.report.specs.declared.refusals.ReportRefusal.TheVariants.{ShortOutput}
use Rattle.report.specs.Texts.{newline, right_word, worded, refusal_line}
use Rattle.output.specs.Written.{fitted, WrittenAs}

-- "branch "
abbrev pub branch_word : List ℕ
branch_word = 98 ∷ 114 ∷ 97 ∷ 110 ∷ 99 ∷ 104 ∷ 32 ∷ []

-- " chosen "
abbrev pub chosen_word : List ℕ
chosen_word = 32 ∷ 99 ∷ 104 ∷ 111 ∷ 115 ∷ 101 ∷ 110 ∷ 32 ∷ []

-- " left "
abbrev pub row_left_word : List ℕ
row_left_word = 32 ∷ 108 ∷ 101 ∷ 102 ∷ 116 ∷ 32 ∷ []

-- " share "
abbrev pub share_word : List ℕ
share_word = 32 ∷ 115 ∷ 104 ∷ 97 ∷ 114 ∷ 101 ∷ 32 ∷ []

unfoldable pub row_line : ℕ → Row → List ℕ
row_line i r =
    worded branch_word i
    ++ (worded chosen_word r.chosen
    ++ (worded row_left_word r.left
    ++ (worded right_word r.right
    ++ (worded share_word r.share
    ++ (newline ∷ [])))))

unfoldable pub row_lines : ℕ → List Row → List ℕ
row_lines i [] = []
row_lines i (r ∷ rs) = row_line i r ++ row_lines (suc i) rs

abbrev pub first_lines : ℕ → List Row → List ℕ
first_lines n rs = row_lines 0 (take n rs)

unfoldable pub branches_of : ℕ → ℕ
branches_of q = pick (ltb most_branches q) most_branches q

unfoldable pub sheet_text : Result Compared Numbers → ℕ → List Row → List ℕ
sheet_text (Ok counts) q rs = first_lines (branches_of q) rs
sheet_text (Err refusal) q rs = refusal_line refusal.number refusal.side

abbrev pub SheetWritten : Result Compared Numbers → ℕ → List Row → List ℕ → List ℕ → Result ℕ ReportRefusal → Type 0
SheetWritten a q rs o output answer = WrittenAs (fitted ShortOutput (sheet_text a q rs) o) (sheet_text a q rs) o output answer

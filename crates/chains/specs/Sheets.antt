-- What a branch that skips releases may rely on, of its rows in the sheets of a chain.
--   ComparesBranches s t gs q rule ys w    a sheet of the releases s and t for q signatures gs, by a rule for the share, lent the rows ys and the work
--                                          memory w, as the call promises it
--   Sheet gs q s t                    such a sheet that is not refused, by any rule
--   branch_row r i                    its row of the branch i;  CountsNone: a row counts no name on either side
--   AcrossSheets steps across         a branch's row across counts no more on a side than its rows in all steps together; so where these count
--                                     nothing, it counts nothing
use Rattle.std.specs.Prelude.{◌≡◌, List, ℕ, ◌≤◌, ◌<◌, get_or, Result, Ok}
use Rattle.meanings.specs.declared.Compared.{Compared}
use Rattle.branches.specs.declared.refusals.SheetRefusal.{SheetRefusal}
use Rattle.branches.specs.declared.row.Row.{Row}
use Rattle.branches.specs.Sheets.{no_row, Says}
use Rattle.chains.specs.Chains.{last_from, Steps, EveryStep, sum_of}

pub record ComparesBranches (s t gs : List ℕ) (q rule : ℕ) (ys : List Row) (w : List ℕ) : Type 0 where
  pub answer : Result Compared SheetRefusal
  pub rows : List Row
  pub memory : List ℕ
  pub says : Says s t gs q rule ys rows w memory answer

pub record Sheet (gs : List ℕ) (q : ℕ) (s t : List ℕ) : Type 0 where
  pub rule : ℕ
  pub rows_lent : List Row
  pub work_lent : List ℕ
  pub call : ComparesBranches s t gs q rule rows_lent work_lent
  pub counts : Compared
  pub accepted : call.answer ≡ Ok counts

abbrev pub branch_row : {gs : List ℕ} {q : ℕ} {s t : List ℕ} → Sheet gs q s t → ℕ → Row
branch_row r i = get_or r.call.rows i no_row

pub record CountsNone (r : Row) : Type 0 where
  pub left : r.left ≡ 0
  pub right : r.right ≡ 0

pub record AcrossSheets {gs : List ℕ} {q : ℕ} {s : List ℕ} {ts : List (List ℕ)} (steps : Steps (Sheet gs q) s ts) (across : Sheet gs q s (last_from s ts)) : Type 0 where
  pub left_most : (i : ℕ) → i < q → (branch_row across i).left ≤ sum_of (λ x y r. (branch_row r i).left) steps
  pub right_most : (i : ℕ) → i < q → (branch_row across i).right ≤ sum_of (λ x y r. (branch_row r i).right) steps
  pub left_none : (i : ℕ) → i < q → EveryStep (λ x y r. (branch_row r i).left ≡ 0) steps → (branch_row across i).left ≡ 0
  pub right_none : (i : ℕ) → i < q → EveryStep (λ x y r. (branch_row r i).right ≡ 0) steps → (branch_row across i).right ≡ 0
  pub share_none : (i : ℕ) → i < q → EveryStep (λ x y r. CountsNone (branch_row r i)) steps → (branch_row across i).share ≡ 0

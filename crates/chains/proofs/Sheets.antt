-- Sheets of a chain: a branch's row across counts no more on a side than its rows in all steps together. Its signature is cut by the counts of
-- the first release, which all releases of the chain share.
--   row_steps            the rows of one branch in all steps;  across_sheets: the law
use mathlib.Core.Path.{◌≡◌, refl, sym, ap, ap₂, subst, ◌∙◌}
use mathlib.Core.Bool.{true}
use mathlib.Core.List.{List}
use Prim.Native.Nat.{ℕ, ◌+◌, ◌≤◌, ◌<◌}
use native.Mathlib.Omega.{arith}
use lib.ListN.{length, get_or, drop, get_or-append}
use Rattle.release.specs.Files.{names_of, roles_of}
use Rattle.release.specs.Refusals.{told}
use Rattle.demands.specs.Inputs.{Accepted}
use Rattle.branches.specs.declared.row.Row.{Row}
use Rattle.branches.specs.Refusals.{sheet_refusal}
use Rattle.branches.specs.Shares.{is_rule}
use Rattle.branches.specs.Rows.{IsRow}
use Rattle.branches.specs.Sheets.{signature_at, no_row}
use Rattle.branches.proofs.Judged.{known}
use Rattle.branches.proofs.Sheets.{accepted_one}
use Rattle.chains.specs.Chains.{last_from, Steps, end, step, EveryStep, sum_of}
use Rattle.chains.specs.Sheets.{Sheet, branch_row, CountsNone, AcrossSheets}
use Rattle.chains.proofs.Chains.{each_step}
use Rattle.chains.proofs.Rows.{RowTold, left_most, right_most, share_none}
use Rattle.chains.proofs.Sums.{sum_zero}

module _ {gs : List ℕ} {q : ℕ} (i : ℕ) (i_in : i < q) where
  module _ {s t : List ℕ} (r : Sheet gs q s t) where
    abbrev part : List ℕ
    part = signature_at (names_of s) (roles_of s) gs i

    accepted : Accepted s t part
    accepted = let found = known (sym r.call.says.answer ∙ ap (told sheet_refusal) r.accepted) in accepted_one found.0 found.1 i i_in

    ruled : is_rule r.rule ≡ true
    ruled = (known (sym r.call.says.answer ∙ ap (told sheet_refusal) r.accepted)).1.ruled

    is_row : IsRow r.rule s t part (branch_row r i)
    is_row =
        let f = r.call.says.accepted_rows r.accepted in
        let early : i < length f.filled = omega (arith, f.long, i_in) in
        let same = ap (λ (l : List Row). get_or l i no_row) f.rows ∙ get_or-append f.filled (drop q r.rows_lent) no_row i early in
        rw same (f.each i i_in)

    -- as the row of a signature
    abbrev row_told : {g : List ℕ} → part ≡ g → RowTold g s t
    row_told e = record {
      accepted = subst (λ (h : List ℕ). Accepted s t h) e accepted;
      rule = r.rule;
      ruled = ruled;
      row = branch_row r i;
      is_row = subst (λ (h : List ℕ). IsRow r.rule s t h (branch_row r i)) e is_row;
    }

    next_part : {g : List ℕ} → part ≡ g → signature_at (names_of t) (roles_of t) gs i ≡ g
    next_part e = ap₂ (λ (n m : ℕ). signature_at n m gs i) (sym accepted.names) (sym accepted.roles) ∙ e

-- the rows of the branch in all steps
record RowSteps (g : List ℕ) (i : ℕ) {gs : List ℕ} {q : ℕ} {s : List ℕ} {ts : List (List ℕ)} (rs : Steps (Sheet gs q) s ts) : Type 0 where
  pub told : Steps (RowTold g) s ts
  pub left : sum_of (λ x y r. r.row.left) told ≡ sum_of (λ x y r. (branch_row r i).left) rs
  pub right : sum_of (λ x y r. r.row.right) told ≡ sum_of (λ x y r. (branch_row r i).right) rs

row_steps : {gs : List ℕ} {q : ℕ} (i : ℕ) (i_in : i < q) {g s : List ℕ} {ts : List (List ℕ)} (rs : Steps (Sheet gs q) s ts) → signature_at (names_of s) (roles_of s) gs i ≡ g → RowSteps g i rs
row_steps i i_in end e = record { told = end; left = refl; right = refl }
row_steps i i_in (step r rs) e =
    let k = row_steps i i_in rs (next_part i i_in r e) in
    record {
      told = step (row_told i i_in r e) k.told;
      left = ap (λ (z : ℕ). (branch_row r i).left + z) k.left;
      right = ap (λ (z : ℕ). (branch_row r i).right + z) k.right;
    }

module _ {gs : List ℕ} {q : ℕ} {s : List ℕ} {ts : List (List ℕ)} (steps : Steps (Sheet gs q) s ts) (over : Sheet gs q s (last_from s ts)) (i : ℕ) (i_in : i < q) where
  abbrev rows : RowSteps (signature_at (names_of s) (roles_of s) gs i) i steps
  rows = row_steps i i_in steps refl

  left_across : (branch_row over i).left ≤ sum_of (λ x y r. (branch_row r i).left) steps
  left_across = omega (arith, left_most rows.told (row_told i i_in over refl), rows.left)

  right_across : (branch_row over i).right ≤ sum_of (λ x y r. (branch_row r i).right) steps
  right_across = omega (arith, right_most rows.told (row_told i i_in over refl), rows.right)

  left_none : EveryStep (λ x y r. (branch_row r i).left ≡ 0) steps → (branch_row over i).left ≡ 0
  left_none none = omega (arith, left_across, sum_zero (λ x y r. (branch_row r i).left) steps none)

  right_none : EveryStep (λ x y r. (branch_row r i).right ≡ 0) steps → (branch_row over i).right ≡ 0
  right_none none = omega (arith, right_across, sum_zero (λ x y r. (branch_row r i).right) steps none)

  no_share : EveryStep (λ x y r. CountsNone (branch_row r i)) steps → (branch_row over i).share ≡ 0
  no_share none = share_none (row_told i i_in over refl)
      (record { left = left_none (each_step (λ x y r k. k.left) steps none); right = right_none (each_step (λ x y r k. k.right) steps none) })

pub across_sheets : {gs : List ℕ} {q : ℕ} {s : List ℕ} {ts : List (List ℕ)} (steps : Steps (Sheet gs q) s ts) (over : Sheet gs q s (last_from s ts)) → AcrossSheets steps over
across_sheets steps over = record {
  left_most = left_across steps over;
  right_most = right_across steps over;
  left_none = left_none steps over;
  right_none = right_none steps over;
  share_none = no_share steps over;
}

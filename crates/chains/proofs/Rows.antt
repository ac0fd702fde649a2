-- Rows of one branch in a chain.
--   RowTold g s t             the row of two accepted releases over the signature g, by a rule
--   left_most, right_most     the row across counts no more on a side than the rows of all steps together
--   share_none                a row that counts none has the share 0
use mathlib.Core.Path.{◌≡◌, refl, sym, ◌∙◌}
use mathlib.Core.Bool.{Bool, true, false, ◌||◌}
use mathlib.Core.List.{List, [], ◌∷◌}
use Prim.Native.Nat.{ℕ, zero, suc, ◌+◌, ◌≤◌}
use native.Mathlib.Nat.{div-eq_of_lt}
use native.Mathlib.Omega.{arith}
use borrow.Author.Tests.{ne_eqb}
use lib.ListN.{take}
use Rattle.el.specs.Lists.{pick, count}
use Rattle.el.specs.Comparison.{on_left, on_right, is_reported}
use Rattle.release.specs.Files.{names_of}
use Rattle.demands.specs.Inputs.{Accepted}
use Rattle.branches.specs.declared.row.Row.{Row}
use Rattle.branches.specs.Shares.{is_rule, share_down, IsShare}
use Rattle.branches.specs.Rows.{is_chosen, IsRow}
use Rattle.branches.proofs.Shares.{one_share}
use Rattle.chains.specs.Chains.{last_from, Steps, sum_of}
use Rattle.chains.specs.Sheets.{CountsNone}
use Rattle.chains.proofs.Sums.{sum_le, count_across}
use Rattle.chains.proofs.Told.{BytesTold, left_steps, right_steps}

pub record RowTold (g s t : List ℕ) : Type 0 where
  pub accepted : Accepted s t g
  pub rule : ℕ
  pub ruled : is_rule rule ≡ true
  pub row : Row
  pub is_row : IsRow rule s t g row

abbrev bytes_told : (g s t : List ℕ) → RowTold g s t → BytesTold g s t
bytes_told g s t r = record { accepted = r.accepted; bytes = r.is_row.bytes; are = r.is_row.are_bytes }

module _ {g s t : List ℕ} (r : RowTold g s t) where
  left_is : r.row.left ≡ count on_left r.is_row.bytes
  left_is = r.is_row.is.left

  right_is : r.row.right ≡ count on_right r.is_row.bytes
  right_is = r.is_row.is.right

module _ {g s : List ℕ} {ts : List (List ℕ)} (steps : Steps (RowTold g) s ts) (over : RowTold g s (last_from s ts)) where
  abbrev all : BytesTold g s (last_from s ts)
  all = bytes_told g s (last_from s ts) over

  pub left_most : over.row.left ≤ sum_of (λ x y r. r.row.left) steps
  left_most =
      let counted = count_across on_left refl (λ x y (r : RowTold g x y). r.is_row.bytes) steps over.is_row.bytes (λ a h. left_steps (bytes_told g) a steps all h) in
      omega (arith, counted, left_is over, sum_le (λ x y (r : RowTold g x y). count on_left r.is_row.bytes) (λ x y r. r.row.left) (λ x y r. omega (arith, left_is r)) steps)

  pub right_most : over.row.right ≤ sum_of (λ x y r. r.row.right) steps
  right_most =
      let counted = count_across on_right refl (λ x y (r : RowTold g x y). r.is_row.bytes) steps over.is_row.bytes (λ a h. right_steps (bytes_told g) a steps all h) in
      omega (arith, counted, right_is over, sum_le (λ x y (r : RowTold g x y). count on_right r.is_row.bytes) (λ x y r. r.row.right) (λ x y r. omega (arith, right_is r)) steps)

-- the share of none
reported_less : (b : ℕ) → pick (is_reported b) 1 0 ≤ pick (on_left b) 1 0 + pick (on_right b) 1 0
reported_less b = by_tests (on_left b) (on_right b)
  where
    by_tests : (l r : Bool) → pick (l || r) 1 0 ≤ pick l 1 0 + pick r 1 0
    by_tests true r = omega arith
    by_tests false r = omega arith

counted_less : (bs : List ℕ) → count is_reported bs ≤ count on_left bs + count on_right bs
unfolding count
counted_less [] = omega arith
counted_less (b ∷ bs) = omega (arith, reported_less b, counted_less bs)

down_zero : (c : ℕ) → share_down 0 c ≡ 0
unfolding share_down
down_zero zero = refl
down_zero (suc c) = simp (share_down, ne_eqb (suc c) 0 (λ z. omega arith)) (div-eq_of_lt (omega arith))

zero_is : (rule c : ℕ) → IsShare rule 0 c 0
zero_is rule c = record { down = λ _. sym (down_zero c); to_nearest = λ _. record { none_chosen = λ _. refl; near = λ _. omega arith; even = λ _ _. refl } }

share_zero : (rule c s : ℕ) → is_rule rule ≡ true → IsShare rule 0 c s → s ≡ 0
share_zero rule c s ruled is = let one = one_share rule 0 c ruled in one.only s is ∙ sym (one.only 0 (zero_is rule c))

pub share_none : {g s t : List ℕ} (r : RowTold g s t) → CountsNone r.row → r.row.share ≡ 0
share_none {g} {s} r none =
    let zero_reported : count is_reported r.is_row.bytes ≡ 0 = omega (arith, counted_less r.is_row.bytes, left_is r, right_is r, none.left, none.right) in
    share_zero r.rule (count is_chosen (take (names_of s) g)) r.row.share r.ruled (rw zero_reported at r.is_row.is.share)

-- Laws of counting.
--   count_filter, count_few      how many pass a filter, and that they are no more than there are
--   count_left, count_right, count_reported     the tests of a row by the values of bytes
--   told                         a row by its counts
use mathlib.Core.Path.{◌≡◌, refl, sym, ap, ◌∙◌}
use mathlib.Core.Bool.{Bool, true, false, ◌||◌, cond}
use mathlib.Core.List.{List, [], ◌∷◌}
use mathlib.Core.Logic.{inl, inr}
use Prim.Native.Nat.{ℕ, ◌+◌, ◌≤◌}
use native.Mathlib.Omega.{arith}
use borrow.Author.Tests.{eqb-true, ne_eqb}
use lib.Dec.{eqb}
use lib.ListN.{length}
use Rattle.std.specs.List.{filter}
use Rattle.std.proofs.lemmas.List.Recursion.{is_count_by}
use Rattle.std.proofs.lemmas.List.Sums.{length-filter, count_by-le-length}
use Rattle.el.specs.Lists.{pick, count}
use Rattle.el.specs.Comparison.{on_left, on_right, is_reported}
use Rattle.el.proofs.Tests.{which}
use Rattle.branches.specs.Shares.{IsShare}
use Rattle.branches.specs.Rows.{RowOf}

-- how many pass a filter
pub count_filter : (p : ℕ → Bool) (bs : List ℕ) → length (filter p bs) ≡ count p bs
unfolding count
count_filter p bs = length-filter p bs ∙ sym (is_count_by (count p) p refl (λ b l. one (p b) (count p l)) bs)
  where
    one : (t : Bool) (k : ℕ) → pick t 1 0 + k ≡ cond t (1 + k) k
    one true k = refl
    one false k = omega arith

pub count_few : (p : ℕ → Bool) (bs : List ℕ) → count p bs ≤ length bs
count_few p bs = rw (← count_filter p bs, length-filter) (count_by-le-length p bs)

-- two tests that never hold together
module _ (p q r : ℕ → Bool) (either : (b : ℕ) → pick (p b) 1 0 + pick (q b) 1 0 ≡ pick (r b) 1 0) where
  pub count_either : (bs : List ℕ) → count p bs + count q bs ≡ count r bs
  unfolding count
  count_either [] = refl
  count_either (b ∷ bs) = omega (arith, either b, count_either bs)

abbrev pub is : ℕ → ℕ → Bool
is v b = eqb b v

one_of : (v u : ℕ) → (v ≡ u → ⊥) → (b : ℕ) → pick (eqb b v) 1 0 + pick (eqb b u) 1 0 ≡ pick (eqb b v || eqb b u) 1 0
one_of v u apart b = elim (which (eqb b v)) [
  | inl e ↦ (let f : eqb b u ≡ false = ne_eqb b u (λ z. apart (sym (eqb-true b v e) ∙ z)) in rw (e, f) refl)
  | inr e ↦ by_test (eqb b u) (eqb b v) e
]
  where
    by_test : (y x : Bool) → x ≡ false → pick x 1 0 + pick y 1 0 ≡ pick (x || y) 1 0
    by_test y true e = absurd (omega (arith, let z : ◌≡◌ {A = ℕ} 1 0 = ap (λ (b : Bool). pick b 1 0) e in z))
    by_test true false e = refl
    by_test false false e = refl

pub count_left : (bs : List ℕ) → count (is 1) bs + count (is 3) bs ≡ count on_left bs
count_left = count_either (is 1) (is 3) on_left (one_of 1 3 (λ z. omega arith))

pub count_right : (bs : List ℕ) → count (is 2) bs + count (is 3) bs ≡ count on_right bs
count_right = count_either (is 2) (is 3) on_right (one_of 2 3 (λ z. omega arith))

-- a byte is reported if it is on the left, or 2
reported_once : (b : ℕ) → pick (on_left b) 1 0 + pick (is 2 b) 1 0 ≡ pick (is_reported b) 1 0
reported_once b = elim (which (eqb b 2)) [
  | inl e ↦ (let f : b ≡ 2 = eqb-true b 2 e in rw f refl)
  | inr e ↦ by_tests (eqb b 1) (eqb b 2) (eqb b 3) e
]
  where
    by_tests : (x y z : Bool) → y ≡ false → pick (x || z) 1 0 + pick y 1 0 ≡ pick ((x || z) || (y || z)) 1 0
    by_tests x true z e = absurd (omega (arith, let f : ◌≡◌ {A = ℕ} 1 0 = ap (λ (b : Bool). pick b 1 0) e in f))
    by_tests true false z e = refl
    by_tests false false true e = refl
    by_tests false false false e = refl

pub count_reported : (bs : List ℕ) → count (is 1) bs + count (is 3) bs + count (is 2) bs ≡ count is_reported bs
count_reported bs =
    let left : count (is 1) bs + count (is 3) bs ≡ count on_left bs = count_left bs in
    let all : count on_left bs + count (is 2) bs ≡ count is_reported bs = count_either on_left (is 2) is_reported reported_once bs in
    omega arith

-- a row by its counts
pub told : (rule : ℕ) (g bs : List ℕ) {c l r b h : ℕ} → c ≡ count (is 1) g → l ≡ count (is 1) bs → r ≡ count (is 2) bs → b ≡ count (is 3) bs → IsShare rule (l + r + b) c h
    → RowOf rule g bs (record { chosen = c; left = l + b; right = r + b; share = h })
told rule g bs {c} {l} {r} {b} {h} chosen left right both share =
    let once : count (is 1) bs + count (is 3) bs + count (is 2) bs ≡ count is_reported bs = count_reported bs in
    let reported : l + r + b ≡ count is_reported bs = omega arith in
    record {
      chosen = chosen;
      left = rw (left, both) (count_left bs);
      right = rw (right, both) (count_right bs);
      share = rw (reported, chosen) at share;
    }

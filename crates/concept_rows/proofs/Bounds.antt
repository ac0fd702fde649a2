-- How many rows are written: no more than the station must be lent.
--   left_rows_fit      three rows for each mark, and three more
--   right_rows_fit     c rows for each mark, where c is no more than there are nodes, and two more
--   square_small       the marks, with the most names
use mathlib.Core.Path.{◌≡◌}
use Prim.Native.Nat.{ℕ, zero, suc, ◌+◌, ◌*◌, ◌≤◌}
use native.Mathlib.Omega.{arith}
use native.Mathlib.Nat.{mul-le-mul, mul-le-mul_left, mul_comm, suc-mul, mul-suc}
use Rattle.concept_rows.specs.Lent.{rows_needed}

-- with s for the number of nodes
cube : (s : ℕ) → suc s * suc s * suc s ≡ (s * s + 2 * s + 1) * s + (s * s + 2 * s + 1)
cube s = let e : suc s * suc s ≡ s * s + 2 * s + 1 = omega (arith, suc-mul s (suc s), mul-suc s s) in rw e (mul-suc (s * s + 2 * s + 1) s)

needed : (n : ℕ) → rows_needed n ≡ (suc n * suc n + 2 * suc n + 1) * suc n + (suc n * suc n + 2 * suc n + 1)
unfolding rows_needed
needed n = let e : n + 2 ≡ suc (suc n) = omega arith in rw e (cube (suc n))

pub left_rows_fit : (n rows : ℕ) → rows ≤ 3 * (suc n * suc n) → rows + 3 ≤ rows_needed n
left_rows_fit zero rows h = omega (arith, needed zero)
left_rows_fit (suc n) rows h =
    let s = suc (suc n) in
    let more : (s * s + 2 * s + 1) * 2 ≤ (s * s + 2 * s + 1) * s = mul-le-mul_left (s * s + 2 * s + 1) (omega arith) in
    omega (arith, needed (suc n), more)

pub right_rows_fit : (n c marks rows : ℕ) → c ≤ suc n → marks ≤ suc n * suc n → rows ≤ 2 + c * marks → rows ≤ rows_needed n
right_rows_fit n c marks rows g h k =
    let s = suc n in
    let most : c * marks ≤ s * (s * s + 2 * s + 1) = mul-le-mul g (omega arith) in
    omega (arith, needed n, most, mul_comm s (s * s + 2 * s + 1))

pub square_small : (n : ℕ) → n ≤ 1023 → suc n * suc n ≤ 1048576
square_small n h = mul-le-mul {n₂ = 1024} {m₂ = 1024} (omega arith) (omega arith)

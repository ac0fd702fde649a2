-- The work memory of a comparison has room for what the station keeps while it writes.
--   left_room      the inclusions of both releases with their hints, a byte for each two nodes, and the line
--   right_room     the rows of the inclusions of both releases, and three bytes for each two nodes
use Prim.Native.Nat.{ℕ, suc, ◌+◌, ◌*◌, ◌≤◌}
use native.Mathlib.Omega.{arith}
use native.Mathlib.Nat.{mul-le-mul_left, mul_left_comm}
use Rattle.marks.specs.Squares.{width, span}
use Rattle.marks.specs.Memory.{size}

pub left_room : (n : ℕ) → 1 ≤ n → 2 * size n + (suc n * suc n + suc n) ≤ 4 * size n
unfolding size
left_room n h = omega (arith, mul-le-mul_left {m = 1} {n = suc n} (suc n) (omega arith))

twice_width : (n : ℕ) → 1 ≤ n → 2 * width n ≤ suc n
unfolding width
twice_width n h = omega arith

pub right_room : (n : ℕ) → 1 ≤ n → 2 * span n + 3 * size n ≤ 4 * size n
unfolding span size
right_room n h = omega (arith, mul-le-mul_left {m = 2 * width n} {n = suc n} (suc n) (twice_width n h), mul_left_comm (suc n) 2 (width n))

-- Laws of rows of marks that a comparison keeps while other memory changes.
--   two_spans                     a square with a name at least has room for another one behind it
--   same_marked, marked_same      rows whose bytes are as before have the marks that they had
use mathlib.Core.Path.{◌≡◌}
use mathlib.Core.List.{List}
use Prim.Native.Nat.{ℕ, suc, ◌+◌, ◌*◌, ◌/◌, ◌≤◌, ◌<◌}
use native.Mathlib.Nat.{mul-le-mul, mul_left_comm}
use native.Mathlib.Omega.{arith}
use lib.ListN.{get_or}
use Rattle.marks.specs.declared.Square.{Square}
use Rattle.marks.specs.Squares.{width, span, place, Marked}
use Rattle.marks.specs.Memory.{size}
use Rattle.marks.proofs.Squares.{place_from_lem, place_below}

pub two_spans : (n : ℕ) → 1 ≤ n → 2 * span n ≤ size n
unfolding span size width
two_spans n h =
    let l : 2 * (n / 8 + 1) ≤ suc n = omega arith in
    omega (arith, mul-le-mul {n₁ = suc n} {m₁ = 2 * (n / 8 + 1)} {n₂ = suc n} {m₂ = suc n} (omega arith) l, mul_left_comm 2 (suc n) (n / 8 + 1))

-- the bytes of the rows of p are as they were in w
pub record RowsSame (p : Square) (w v : List ℕ) : Type 0 where
  pub byte : (i : ℕ) → p.base ≤ i → i < p.base + span p.names → get_or v i 0 ≡ get_or w i 0

module _ {p : Square} {w v : List ℕ} (same : RowsSame p w v) {x y : ℕ} (h : x ≤ p.names) (l : y ≤ p.names) where
  pub same_marked : Marked p w x y → Marked p v x y
  same_marked m = record { is = rw (same.byte (place p x y) (place_from_lem p x y) (place_below p x y h l)) m.is }

  pub marked_same : Marked p v x y → Marked p w x y
  marked_same m = record { is = rw (← same.byte (place p x y) (place_from_lem p x y) (place_below p x y h l)) m.is }

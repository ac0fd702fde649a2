-- Places of pairs: that of r and s is r × m + s, within m × m, and no other pair of roles below m has it.
use mathlib.Core.Path.{◌≡◌, refl}
use mathlib.Core.Logic.{◌⊎◌, inl, inr}
use Prim.Native.Nat.{ℕ, suc, ◌+◌, ◌*◌, ◌≤◌, ◌<◌}
use native.Mathlib.Nat.{mul-le-mul, suc-mul}
use native.Mathlib.Omega.{arith}
use native.Mathlib.Decide.{ℕ_discrete, dec_lt}

pub place_within : {m r s : ℕ} → r < m → s < m → r * m + s < m * m
place_within {m} {r} {s} h l =
    let rows : suc r * m ≤ m * m = mul-le-mul {n₁ = suc r} {m₁ = m} {n₂ = m} {m₂ = m} h (omega arith) in
    omega (arith, rows, suc-mul r m)

place_below : (m r q s z : ℕ) → r < q → s < m → r * m + s < q * m + z
place_below m r q s z h l =
    let rows : suc r * m ≤ q * m = mul-le-mul {n₁ = suc r} {m₁ = m} {n₂ = q} {m₂ = m} h (omega arith) in
    omega (arith, rows, suc-mul r m)

pub same_place : {m r q s z : ℕ} → s < m → z < m → r * m + s ≡ q * m + z → (r ≡ q) × (s ≡ z)
same_place {m} {r} {q} {s} {z} l k e = by_order (dec_lt r q) (dec_lt q r)
  where
    by_order : Dec (r < q) → Dec (q < r) → (r ≡ q) × (s ≡ z)
    by_order (yes h) d = absurd (omega (arith, place_below m r q s z h l))
    by_order (no h) (yes g) = absurd (omega (arith, place_below m q r z s g k))
    by_order (no h) (no g) = let i : r ≡ q = omega arith in (i, omega (arith, rw i at e))

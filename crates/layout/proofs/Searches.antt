-- Laws of searches through the numbers below n.
--   each_more, each_to      a search that finds all: at the next number, and up to the next one of which it may not hold
use mathlib.Core.Path.{◌≡◌}
use Prim.Native.Nat.{ℕ, ◌+◌, ◌<◌}
use native.Mathlib.Omega.{arith}
use native.Mathlib.Decide.{ℕ_discrete, dec_lt}
use Rattle.marks.specs.Squares.{First}
use Rattle.layout.specs.Searches.{EachBelow}

module _ {D : ℕ → Type 0} where
  pub each_more : {k : ℕ} → EachBelow D k → D k → EachBelow D (k + 1)
  each_more {k} p d = record { at = λ i h. by_place i h (ℕ_discrete i k) }
    where
      by_place : (i : ℕ) → i < k + 1 → Dec (i ≡ k) → D i
      by_place i h (yes e) = rw e d
      by_place i h (no e) = p.at i (omega arith)

  pub each_to : {There Skipped : ℕ → Type 0} {n k y : ℕ} → ((i : ℕ) → Skipped i → D i) → First There Skipped n k y → EachBelow D k → EachBelow D y
  each_to {k = k} {y} f first p = record { at = λ i h. by_place i h (dec_lt i k) }
    where
      by_place : (i : ℕ) → i < y → Dec (i < k) → D i
      by_place i h (yes j) = p.at i j
      by_place i h (no j) = f i (first.before i (omega arith) h)

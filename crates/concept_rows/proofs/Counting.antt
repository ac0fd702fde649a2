-- How many of the first k numbers pass a test: fewer if fewer pass. Rows are counted against it: so many for each that passes no more.
use mathlib.Core.Path.{◌≡◌, refl}
use mathlib.Core.Bool.{Bool, true, false, false≢true}
use Prim.Native.Nat.{ℕ, zero, suc, ◌≤◌, ◌<◌}
use native.Mathlib.Omega.{arith}
use native.Mathlib.Decide.{ℕ_discrete}
use Rattle.el.specs.Lists.{pick}
use Rattle.concept_rows.specs.Written.{passing}

pick_small : (b : Bool) → pick b 1 0 ≤ 1
pick_small true = omega arith
pick_small false = omega arith

pub passing_most : (p : ℕ → Bool) (k : ℕ) → passing p k ≤ k
unfolding passing
passing_most p zero = omega arith
passing_most p (suc k) = omega (arith, pick_small (p k), passing_most p k)

module _ (p q : ℕ → Bool) where
  pick_fewer : (b c : Bool) → (c ≡ true → b ≡ true) → pick c 1 0 ≤ pick b 1 0
  pick_fewer true true h = omega arith
  pick_fewer true false h = omega arith
  pick_fewer false true h = absurd (false≢true (h refl))
  pick_fewer false false h = omega arith

  pub fewer : (k : ℕ) → ((i : ℕ) → i < k → q i ≡ true → p i ≡ true) → passing q k ≤ passing p k
  unfolding passing
  fewer zero h = omega arith
  fewer (suc k) h = omega (arith, pick_fewer (p k) (q k) (h k (omega arith)), fewer k (λ i l. h i (omega arith)))

  pub one_fewer : (k : ℕ) → ((i : ℕ) → i < k → q i ≡ true → p i ≡ true) → {i : ℕ} → i < k → p i ≡ true → q i ≡ false → passing q k < passing p k
  unfolding passing
  one_fewer zero h l e f = absurd (omega arith)
  one_fewer (suc k) h {i} l e f = elim (ℕ_discrete i k) [
    | yes z ↦ rw (← z, e, f) (rw z (omega (arith, fewer k (λ i l. h i (omega arith)))))
    | no z ↦ omega (arith, pick_fewer (p k) (q k) (h k (omega arith)), one_fewer k (λ i l. h i (omega arith)) {i = i} (omega arith) e f)
  ]

pub passing_same : (p q : ℕ → Bool) (k : ℕ) → ((i : ℕ) → i < k → p i ≡ q i) → passing p k ≡ passing q k
unfolding passing
passing_same p q zero h = refl
passing_same p q (suc k) h = rw (h k (omega arith), passing_same p q k (λ i l. h i (omega arith)))

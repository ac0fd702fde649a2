-- No more names are counted across than in all steps together: each name that is counted across is counted in some step, name after name.
--   sum_zero, sum_le       sums over the steps of a chain
--   count_across           of bytes that are told, for a test that 0 does not pass
use mathlib.Core.Path.{◌≡◌, refl, ap}
use mathlib.Core.Logic.{inl, inr}
use mathlib.Core.Bool.{Bool, true, false}
use mathlib.Core.List.{List, [], ◌∷◌}
use Prim.Native.Nat.{ℕ, zero, suc, ◌+◌, ◌≤◌}
use native.Mathlib.Omega.{arith}
use lib.ListN.{length, get_or, take}
use lib.Seq.{take_all}
use Rattle.el.specs.Lists.{pick, count}
use Rattle.el.proofs.Tests.{which}
use Rattle.chains.specs.Chains.{Steps, end, step, SomeStep, EveryStep, sum_of}

module _ {X : Type 0} {R : X → X → Type 0} where
  pub sum_zero : (f : (x y : X) → R x y → ℕ) {x : X} {ys : List X} (rs : Steps R x ys) → EveryStep (λ x y r. f x y r ≡ 0) rs → sum_of f rs ≡ 0
  sum_zero f end none = refl
  sum_zero f (step r rs) none = omega (arith, none.0, sum_zero f rs none.1)

  pub sum_le : (f h : (x y : X) → R x y → ℕ) (less : (x y : X) (r : R x y) → f x y r ≤ h x y r) {x : X} {ys : List X} (rs : Steps R x ys) → sum_of f rs ≤ sum_of h rs
  sum_le f h less end = omega arith
  sum_le f h less (step r rs) = omega (arith, less _ _ r, sum_le f h less rs)

  sum_more : (f h k : (x y : X) → R x y → ℕ) (more : (x y : X) (r : R x y) → f x y r ≡ h x y r + k x y r) {x : X} {ys : List X} (rs : Steps R x ys)
      → sum_of f rs ≡ sum_of h rs + sum_of k rs
  sum_more f h k more end = refl
  sum_more f h k more (step r rs) = omega (arith, more _ _ r, sum_more f h k more rs)

-- a test that 0 does not pass
module _ (p : ℕ → Bool) (not_zero : p 0 ≡ false) where
  count_next : (bs : List ℕ) (k : ℕ) → count p (take (suc k) bs) ≡ count p (take k bs) + pick (p (get_or bs k 0)) 1 0
  unfolding count
  count_next [] zero = rw not_zero refl
  count_next [] (suc k) = rw not_zero refl
  count_next (b ∷ bs) zero = omega arith
  count_next (b ∷ bs) (suc k) = omega (arith, count_next bs k)

  count_take : (bs : List ℕ) (k : ℕ) → count p (take k bs) ≤ count p bs
  unfolding count
  count_take [] zero = omega arith
  count_take [] (suc k) = omega arith
  count_take (b ∷ bs) zero = omega arith
  count_take (b ∷ bs) (suc k) = omega (arith, count_take bs k)

  module _ {X : Type 0} {R : X → X → Type 0} (bytes : (x y : X) → R x y → List ℕ) where
    abbrev at : ℕ → (x y : X) → R x y → ℕ
    at a x y r = pick (p (get_or (bytes x y r) a 0)) 1 0

    some_counts : (a : ℕ) {x : X} {ys : List X} (rs : Steps R x ys) → SomeStep (λ x y r. p (get_or (bytes x y r) a 0) ≡ true) rs → 1 ≤ sum_of (at a) rs
    some_counts a end s = absurd s
    some_counts a (step r rs) s = elim s [
      | inl here ↦ (let z : at a _ _ r ≡ 1 = rw here refl in omega arith)
      | inr after ↦ (let z : 1 ≤ sum_of (at a) rs = some_counts a rs after in omega arith)
    ]

    module _ {x : X} {ys : List X} (rs : Steps R x ys) (bs : List ℕ) (told : (a : ℕ) → p (get_or bs a 0) ≡ true → SomeStep (λ x y r. p (get_or (bytes x y r) a 0) ≡ true) rs) where
      one_name : (a : ℕ) → pick (p (get_or bs a 0)) 1 0 ≤ sum_of (at a) rs
      one_name a = elim (which (p (get_or bs a 0))) [
        | inl h ↦ rw h (some_counts a rs (told a h))
        | inr h ↦ rw h (omega arith)
      ]

      first_names : (k : ℕ) → count p (take k bs) ≤ sum_of (λ x y r. count p (take k (bytes x y r))) rs
      unfolding count
      first_names zero = omega arith
      first_names (suc k) = omega (
        arith,
        count_next bs k,
        one_name k,
        first_names k,
        sum_more _ (λ x y r. count p (take k (bytes x y r))) (at k) (λ x y r. count_next (bytes x y r) k) rs,
      )

      pub count_across : count p bs ≤ sum_of (λ x y r. count p (bytes x y r)) rs
      count_across =
          let whole : count p (take (length bs) bs) ≡ count p bs = ap (count p) (take_all (length bs) bs (omega arith)) in
          omega (arith, first_names (length bs), sum_le _ (λ x y r. count p (bytes x y r)) (λ x y r. count_take (bytes x y r) (length bs)) rs)

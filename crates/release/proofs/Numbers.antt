-- Laws of numbers of w bytes, and of the width of a file's names.
--   is_width                 a width is 1 or 2;  version_1_width, version_2_width: which, by the version
--   number_narrow, number_wide   the number of one byte, and of two
--   in_numbers, numbers_at   the members of a run of numbers, by their places
--   step_within              the bytes of one of k numbers lie among those of all
use mathlib.Core.Path.{◌≡◌, sym, ◌∙◌}
use mathlib.Core.Bool.{Bool, true, false}
use mathlib.Core.List.{List}
use Prim.Native.Nat.{ℕ, zero, suc, ◌+◌, ◌*◌, ◌≤◌, ◌<◌}
use native.Mathlib.Nat.{mul-le-mul, mul-le-mul_left}
use native.Mathlib.Omega.{arith}
use borrow.Author.Tests.{eq-eqb, ne_eqb}
use lib.Dec.{eqb}
use lib.ListN.{get_or}
use Rattle.el.specs.Lists.{In, first, later, pick}
use Rattle.release.specs.Files.{number, numbers, version_of, width_of, most_names, most_names_of, most_conjuncts, IsWidth}

-- the width
pub is_width : (s : List ℕ) → IsWidth (width_of s)
unfolding width_of
is_width s = by_test (eqb (get_or s 3 0) 1)
  where
    by_test : (b : Bool) → IsWidth (pick b 1 2)
    by_test true = record { some = omega arith; few = omega arith }
    by_test false = record { some = omega arith; few = omega arith }

pub width_1 : (s : List ℕ) → get_or s 3 0 ≡ 1 → 1 ≡ width_of s
unfolding width_of
width_1 s e = simp (width_of, eq-eqb _ _ e)

pub width_2 : (s : List ℕ) → (get_or s 3 0 ≡ 1 → ⊥) → 2 ≡ width_of s
unfolding width_of
width_2 s d = simp (width_of, ne_eqb _ _ d)

pub limit_within : (w : ℕ) → most_names_of w ≤ most_names
limit_within w = by_test (eqb w 1)
  where
    by_test : (b : Bool) → pick b 127 most_names ≤ most_names
    by_test true = omega arith
    by_test false = omega arith

pub few_bytes : {w k : ℕ} → IsWidth w → k ≤ most_conjuncts → w * k ≤ 2 * most_conjuncts
few_bytes h l = mul-le-mul h.few l

-- numbers
one_byte : (s : List ℕ) (p : ℕ) → number 1 s p ≡ get_or s p 0
unfolding number
one_byte s p = omega arith

pub two_bytes : (s : List ℕ) (p : ℕ) → number 2 s p ≡ get_or s p 0 + 256 * get_or s (p + 1) 0
unfolding number
two_bytes s p = omega arith

module _ (w : ℕ) (s : List ℕ) (p : ℕ) where
  pub number_narrow : w ≡ 1 → (x : ℕ) → x ≡ get_or s p 0 → x ≡ number w s p
  number_narrow e x h = rw e (h ∙ sym (one_byte s p))

  pub number_wide : w ≡ 2 → (x : ℕ) → x ≡ get_or s p 0 + 256 * get_or s (p + 1) 0 → x ≡ number w s p
  number_wide h x e = rw h (omega (arith, two_bytes s p))

-- the width by the version
pub version_1_width : (s : List ℕ) → version_of s ≡ 1 → width_of s ≡ 1
version_1_width s e = let z : get_or s 3 0 ≡ 1 = omega (arith, two_bytes s 3) in sym (width_1 s z)

pub version_2_width : (s : List ℕ) → version_of s ≡ 2 → width_of s ≡ 2
version_2_width s e = let z : get_or s 3 0 ≡ 2 = omega (arith, two_bytes s 3) in sym (width_2 s (λ f. omega arith))

-- runs of numbers
pub in_numbers : (w k : ℕ) (s : List ℕ) (p i : ℕ) → i < k → In (numbers w k s p) (number w s (p + w * i))
unfolding numbers
in_numbers w zero s p i h = absurd (omega arith)
in_numbers w (suc k) s p zero h = let e : p + w * 0 ≡ p = omega arith in rw e first
in_numbers w (suc k) s p (suc i) h = let e : p + w * suc i ≡ p + w + w * i = omega arith in rw e (later (in_numbers w k s (p + w) i (omega arith)))

pub record NumberAt (w k : ℕ) (s : List ℕ) (p y : ℕ) : Type 0 where
  pub place : ℕ
  pub small : place < k
  pub is : number w s (p + w * place) ≡ y

pub numbers_at : (w k : ℕ) (s : List ℕ) (p : ℕ) {y : ℕ} → In (numbers w k s p) y → NumberAt w k s p y
unfolding numbers
numbers_at w zero s p h = elim h [ ]
numbers_at w (suc k) s p first = let e : p + w * 0 ≡ p = omega arith in record { place = 0; small = omega arith; is = rw e }
numbers_at w (suc k) s p (later h) =
    let r = numbers_at w k s (p + w) h in
    let e : p + w * suc r.place ≡ p + w + w * r.place = omega arith in
    record { place = suc r.place; small = omega (arith, r.small); is = rw e r.is }

pub step_within : (w i k : ℕ) → i < k → w * i + w ≤ w * k
step_within w i k h = let l : w * suc i ≤ w * k = mul-le-mul_left w h in omega arith

-- Numbers in decimal: the digits of a number are those of its tenth and its last digit; a number below a limit has few digits.
use mathlib.Core.Path.{◌≡◌, refl, sym, ap, ◌∙◌}
use mathlib.Core.Bool.{Bool, true, false}
use mathlib.Core.List.{[], ◌∷◌, ◌++◌}
use Prim.Native.Nat.{ℕ, zero, suc, ◌*◌, ◌/◌, ◌%◌, ◌≤◌, ◌<◌}
use native.Mathlib.Nat.{div-lt_self, div-lt_iff_lt-mul}
use native.Mathlib.Omega.{arith}
use borrow.Author.Tests.{lt-ltb, le-ltb, ltb-true, ltb-false}
use lib.Dec.{ltb}
use lib.ListN.{length, length-append}
use Rattle.output.specs.Numbers.{digit, digits_within, decimal}

pub tenth_less : (x : ℕ) → 10 ≤ x → x / 10 < x
tenth_less x h = div-lt_self (omega arith) (omega arith)

-- any two limits above the number give the same digits
digits_alike : (f g x : ℕ) → x < f → x < g → digits_within f x ≡ digits_within g x
unfolding digits_within
digits_alike zero g x h k = absurd (omega arith)
digits_alike (suc f) zero x h k = absurd (omega arith)
digits_alike (suc f) (suc g) x h k = go (ltb x 10) refl (λ u v. digits_alike f g (x / 10) u v)
  where
    go : (b : Bool) → ltb x 10 ≡ b → (x / 10 < f → x / 10 < g → digits_within f (x / 10) ≡ digits_within g (x / 10)) → digits_within (suc f) x ≡ digits_within (suc g) x
    go true e tenth = simp (e, digits_within)
    go false e tenth =
        let t : 10 ≤ x = ltb-false x 10 e in
        let l : x / 10 < x = tenth_less x t in
        let alike : digits_within f (x / 10) ≡ digits_within g (x / 10) = tenth (omega arith) (omega arith) in
        simp (e, digits_within, alike)

pub decimal_one : (x : ℕ) → x < 10 → decimal x ≡ digit x ∷ []
unfolding decimal digits_within
decimal_one x h = simp (lt-ltb x 10 h)

-- the last digit of a number below ten is the number
pub decimal_last : (x : ℕ) → x < 10 → digit (x % 10) ∷ [] ≡ decimal x
decimal_last x h = let e : x % 10 ≡ x = omega arith in ap (λ (d : ℕ). digit d ∷ []) e ∙ sym (decimal_one x h)

pub decimal_more : (x : ℕ) → 10 ≤ x → decimal x ≡ decimal (x / 10) ++ (digit (x % 10) ∷ [])
unfolding decimal digits_within
decimal_more x h =
    let l : x / 10 < x = tenth_less x h in
    let alike : digits_within x (x / 10) ≡ digits_within (suc (x / 10)) (x / 10) = digits_alike x (suc (x / 10)) (x / 10) l (omega arith) in
    let f : ltb x 10 ≡ false = le-ltb x 10 h in
    simp (f, alike)

-- a number below a limit has few digits
pub length_below_10 : (x : ℕ) → x < 10 → length (decimal x) ≤ 1
length_below_10 x h = omega (arith, ap length (decimal_one x h))

more_digits : (limit k : ℕ) → ((y : ℕ) → y < limit → length (decimal y) ≤ k) → 1 ≤ k → (x : ℕ) → x < limit * 10 → length (decimal x) ≤ suc k
more_digits limit k few some x h = by_size (ltb x 10) refl
  where
    by_size : (b : Bool) → ltb x 10 ≡ b → length (decimal x) ≤ suc k
    by_size true e = omega (arith, length_below_10 x (ltb-true x 10 e))
    by_size false e =
        let tenth : length (decimal (x / 10)) ≤ k = few (x / 10) ((div-lt_iff_lt-mul (omega arith)).1 h) in
        omega (arith, ap length (decimal_more x (ltb-false x 10 e)), length-append (decimal (x / 10)) (digit (x % 10) ∷ []), tenth)

pub length_below_100 : (x : ℕ) → x < 100 → length (decimal x) ≤ 2
length_below_100 = more_digits 10 1 length_below_10 (omega arith)

pub length_below_1000 : (x : ℕ) → x < 1000 → length (decimal x) ≤ 3
length_below_1000 = more_digits 100 2 length_below_100 (omega arith)

pub length_below_10000 : (x : ℕ) → x < 10000 → length (decimal x) ≤ 4
length_below_10000 = more_digits 1000 3 length_below_1000 (omega arith)

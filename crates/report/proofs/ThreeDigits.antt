-- Numbers with leading zeros up to three digits, by their size.
use mathlib.Core.Path.{◌≡◌}
use mathlib.Core.List.{[], ◌∷◌, ◌++◌}
use Prim.Native.Nat.{ℕ, ◌≤◌, ◌<◌}
use borrow.Author.Tests.{lt-ltb, le-ltb}
use Rattle.output.specs.Numbers.{decimal}
use Rattle.report.specs.Numbers.{three_digits}

pub three_of_one : (x : ℕ) → x < 10 → three_digits x ≡ (48 ∷ 48 ∷ []) ++ decimal x
unfolding three_digits
three_of_one x h = simp (lt-ltb x 10 h)

pub three_of_two : (x : ℕ) → 10 ≤ x → x < 100 → three_digits x ≡ (48 ∷ []) ++ decimal x
unfolding three_digits
three_of_two x h k = simp (le-ltb x 10 h, lt-ltb x 100 k)

pub three_of_more : (x : ℕ) → 10 ≤ x → 100 ≤ x → three_digits x ≡ decimal x
unfolding three_digits
three_of_more x h k = simp (le-ltb x 10 h, le-ltb x 100 k)

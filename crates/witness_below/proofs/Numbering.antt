-- Pairs and their numbers, and the three bytes that are kept for each.
--   pair_is, pair_small, pair_one     the number of a pair, as the code has it; it is one of all; it tells the pair
--   value_put                         three bytes put
use mathlib.Core.Path.{◌≡◌, refl, ap, ◌∙◌}
use mathlib.Core.List.{List}
use Prim.Native.Nat.{ℕ, suc, ◌+◌, ◌*◌, ◌/◌, ◌%◌, ◌≤◌, ◌<◌}
use native.Mathlib.Omega.{arith}
use native.Mathlib.Numerals.{add-one}
use native.Mathlib.Nat.{mul-le-mul_right, suc-mul}
use native.Mathlib.Decide.{dec_lt}
use lib.ListN.{length, get_or, set, length-set}
use lib.Seq.{get_or-set_same, get_or-set_other}
use Rattle.witness_below.specs.Cells.{pair_of, value_at, Value, Pair, CellPut}

-- numbers of pairs
rows_before : (n x z : ℕ) → x < z → x * suc n + suc n ≤ z * suc n
rows_before n x z h = omega (arith, mul-le-mul_right {m = suc x} {n = z} (suc n) h, suc-mul x (suc n))

pub pair_small : (n x y : ℕ) → x ≤ n → y ≤ n → pair_of n x y < suc n * suc n
unfolding pair_of
pair_small n x y h l = omega (arith, rows_before n x (suc n) (omega arith))

pub pair_is : {n x y r : ℕ} → x ≤ n → y ≤ n → r ≡ x * (n + 1) + y → Pair n x y r
unfolding pair_of
pair_is {n} {x} {y} h l e = let z : x * (n + 1) + y ≡ x * suc n + y = rw add-one in record { is = e ∙ z; inside = omega (arith, pair_small n x y h l) }

pub pair_one : (n x y a b : ℕ) → y ≤ n → b ≤ n → pair_of n x y ≡ pair_of n a b → (x ≡ a) × (y ≡ b)
unfolding pair_of
pair_one n x y a b h l e = elim (dec_lt x a) [
  | yes k ↦ absurd (omega (arith, rows_before n x a k))
  | no k ↦ elim (dec_lt a x) [
    | yes m ↦ absurd (omega (arith, rows_before n a x m))
    | no m ↦ (let z : x ≡ a = omega arith in (z, omega (arith, ap (λ (i : ℕ). i * suc n) z)))
  ]
]

pub square_few : (n : ℕ) → n ≤ 1023 → suc n * suc n ≤ 1048576
square_few n h = omega (arith, mul-le-mul_right {m = suc n} {n = 1024} (suc n) (omega arith))

-- three bytes
pub value_is : {w : List ℕ} {base p at low middle high : ℕ} → at ≡ base + 3 * p → low ≡ get_or w at 0 → middle ≡ get_or w (at + 1) 0 → high ≡ get_or w (at + 2) 0 → low ≤ 255
    → middle ≤ 255 → high ≤ 255 → Value w base p (low + 256 * middle + 65536 * high)
unfolding value_at
value_is e f g h a b c = record { is = rw (f, g, h, e) refl; small = omega arith }

module _ (w : List ℕ) (base p v a b c : ℕ) (room : base + 3 * p + 3 ≤ length w) (low : a ≡ v % 256) (middle : b ≡ v / 256 % 256) (high : c ≡ v / 65536) where
  abbrev with_low : List ℕ
  with_low = set w (base + 3 * p) a

  abbrev with_middle : List ℕ
  with_middle = set with_low (base + 3 * p + 1) b

  abbrev with_high : List ℕ
  with_high = set with_middle (base + 3 * p + 2) c

  long_low : length with_low ≡ length w
  long_low = simp length-set

  long_middle : length with_middle ≡ length w
  long_middle = simp length-set

  apart : (i : ℕ) → (i ≡ base + 3 * p → ⊥) → (i ≡ base + 3 * p + 1 → ⊥) → (i ≡ base + 3 * p + 2 → ⊥) → get_or with_high i 0 ≡ get_or w i 0
  apart i x y z = get_or-set_other with_middle (base + 3 * p + 2) i c 0 z ∙ get_or-set_other with_low (base + 3 * p + 1) i b 0 y ∙ get_or-set_other w (base + 3 * p) i a 0 x

  third : get_or with_high (base + 3 * p + 2) 0 ≡ c
  third = get_or-set_same with_middle (base + 3 * p + 2) c 0 (omega (arith, long_middle))

  second : get_or with_high (base + 3 * p + 1) 0 ≡ b
  second = get_or-set_other with_middle (base + 3 * p + 2) (base + 3 * p + 1) c 0 (λ e. omega arith) ∙ get_or-set_same with_low (base + 3 * p + 1) b 0 (omega (arith, long_low))

  first : get_or with_high (base + 3 * p) 0 ≡ a
  first = get_or-set_other with_middle (base + 3 * p + 2) (base + 3 * p) c 0 (λ e. omega arith) ∙ get_or-set_other with_low (base + 3 * p + 1) (base + 3 * p) b 0 (λ e. omega arith) ∙
      get_or-set_same w (base + 3 * p) a 0 (omega arith)

  value_here : value_at with_high base p ≡ v
  unfolding value_at
  value_here = rw (first, second, third) (omega arith)

  value_other : (q : ℕ) → (q ≡ p → ⊥) → value_at with_high base q ≡ value_at w base q
  unfolding value_at
  value_other q h =
      let x : get_or with_high (base + 3 * q) 0 ≡ get_or w (base + 3 * q) 0 = apart (base + 3 * q) (λ e. omega arith) (λ e. omega arith) (λ e. omega arith) in
      let y : get_or with_high (base + 3 * q + 1) 0 ≡ get_or w (base + 3 * q + 1) 0 = apart (base + 3 * q + 1) (λ e. omega arith) (λ e. omega arith) (λ e. omega arith) in
      let z : get_or with_high (base + 3 * q + 2) 0 ≡ get_or w (base + 3 * q + 2) 0 = apart (base + 3 * q + 2) (λ e. omega arith) (λ e. omega arith) (λ e. omega arith) in
      rw (x, y, z)

  pub value_put : CellPut base p v w with_high
  value_put = record {
    long = simp length-set;
    here = value_here;
    other = value_other;
    before = λ i h. apart i (λ e. omega arith) (λ e. omega arith) (λ e. omega arith);
    past = λ i h. apart i (λ e. omega arith) (λ e. omega arith) (λ e. omega arith);
  }

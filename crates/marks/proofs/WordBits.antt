-- Laws of words.
--   reads_none, reads_more             a word read byte after byte, the highest first
--   lowest, first_bit                  what counting the zeros at the low end of a number gives
--   rest_of_word, rest_of_byte         the bits of a row from a column on;  end_after: they end after it
use mathlib.Core.Path.{◌≡◌, refl, sym, ap, ◌∙◌}
use mathlib.Core.List.{List}
use Prim.Native.Nat.{ℕ, zero, suc, ◌+◌, ◌-◌, ◌*◌, ◌/◌, ◌%◌, ◌^◌, ◌≤◌, ◌<◌}
use native.Mathlib.Nat.{lt_of_lt_of_le, div-eq_of_lt, pow-suc, not-suc-le-zero, le_of_suc-le-suc}
use native.Mathlib.Omega.{arith}
use native.Mathlib.Decide.{dec_lt, dec_le}
use borrow.Author.Tests.{le-leb, lt-leb}
use lib.Count.{count_trailing_zeros, under}
use lib.ListN.{get_or}
use lib.Pow.{pow-add, pow_mono, shr-shr, shr_lt}
use Rattle.marks.specs.Squares.{bit}
use Rattle.marks.specs.Words.{Reads, block_end, Rest, FirstBit}
use Rattle.marks.proofs.Bits.{no_high_bit}

-- the bits of a number that is shifted
pub bit_shifted : (b j k : ℕ) → bit (b / 2 ^ j) k ≡ bit b (j + k)
unfolding bit
bit_shifted b j k = ap (λ (z : ℕ). z % 2) (shr-shr b j k)

-- a byte below a number
low_bit : (r b k : ℕ) → k < 8 → b < 256 → bit (256 * r + b) k ≡ bit b k
unfolding bit
low_bit r b zero h l = omega arith
low_bit r b (suc zero) h l = omega arith
low_bit r b (suc (suc zero)) h l = omega arith
low_bit r b (suc (suc (suc zero))) h l = omega arith
low_bit r b (suc (suc (suc (suc zero)))) h l = omega arith
low_bit r b (suc (suc (suc (suc (suc zero))))) h l = omega arith
low_bit r b (suc (suc (suc (suc (suc (suc zero)))))) h l = omega arith
low_bit r b (suc (suc (suc (suc (suc (suc (suc zero))))))) h l = omega arith
low_bit r b (suc (suc (suc (suc (suc (suc (suc (suc k)))))))) h l = absurd (omega arith)

high_bit : (r b k : ℕ) → b < 256 → bit (256 * r + b) (8 + k) ≡ bit r k
high_bit r b k l =
    let e : (256 * r + b) / 2 ^ 8 ≡ r = omega arith in
    sym (bit_shifted (256 * r + b) 8 k) ∙ ap (λ (z : ℕ). bit z k) e

pub reads_none : {s : List ℕ} {p : ℕ} → Reads 0 s p 0
reads_none = record { read = record { bits = λ j h. absurd (not-suc-le-zero h) }; small = omega arith }

pub reads_more : {k p r : ℕ} {s : List ℕ} → get_or s p 0 < 256 → Reads k s (p + 1) r → Reads (k + 8) s p (256 * r + get_or s p 0)
reads_more {k} {p} {r} {s} l rd = record {
  read = record { bits = λ j h. by_order j h (dec_lt j 8) };
  small = omega (arith, rd.small, pow-add 2 k 8);
}
  where
    by_order : (j : ℕ) → j < k + 8 → Dec (j < 8) → bit (256 * r + get_or s p 0) j ≡ bit (get_or s (p + j / 8) 0) (j % 8)
    by_order j h (yes f) =
        let d : j / 8 ≡ 0 = omega arith in
        let m : j % 8 ≡ j = omega arith in
        let q : p + j / 8 ≡ p = omega arith in
        low_bit r (get_or s p 0) j f l ∙ ap (λ (z : ℕ). bit (get_or s p 0) z) (sym m) ∙ ap (λ (z : ℕ). bit (get_or s z 0) (j % 8)) (sym q)
    by_order j h (no f) =
        let i = j - 8 in
        let e : 8 + i ≡ j = omega arith in
        let d : p + 1 + i / 8 ≡ p + j / 8 = omega arith in
        let m : i % 8 ≡ j % 8 = omega arith in
        ap (λ (z : ℕ). bit (256 * r + get_or s p 0) z) (sym e) ∙ high_bit r (get_or s p 0) i l ∙ rd.read.bits i (omega arith) ∙ ap (λ (z : ℕ). bit (get_or s z 0) (i % 8)) d ∙ ap
        (λ (z : ℕ). bit (get_or s (p + j / 8) 0) z) m

-- the last i of eight bytes read, and the one before them
pub read_fits : {i p r : ℕ} {s : List ℕ} → i < 8 → Reads (8 * i) s p r → r < 2 ^ 56
read_fits {i} h rd = lt_of_lt_of_le rd.small (pow_mono {i = 8 * i} {j = 56} (omega arith))

pub reads_step : (at : ℕ) {i r b : ℕ} {s : List ℕ} → i < 8 → (b ≡ get_or s (at + (7 - i)) 0) × (b ≤ 255) → Reads (8 * i) s (at + (8 - i)) r
    → Reads (8 * (i + 1)) s (at + (8 - (i + 1))) (256 * r + b)
reads_step at {i} {r} {b} {s} h e rd =
    let k : 8 * (i + 1) ≡ 8 * i + 8 = omega arith in
    let p : at + (8 - i) ≡ at + (7 - i) + 1 = omega arith in
    let n : at + (8 - (i + 1)) ≡ at + (7 - i) = omega arith in
    let byte : get_or s (at + (7 - i)) 0 < 256 = omega arith in
    rw (k, n, e.0) (reads_more byte (rw p at rd))

pub reads_end : {i at r : ℕ} {s : List ℕ} → i ≡ 8 → Reads (8 * i) s (at + (8 - i)) r → Reads 64 s at r
reads_end {i} {at} z rd =
    let p : at + 0 ≡ at = omega arith in
    rw p at (rw z at rd)

-- counting zeros at the low end
bit_half : (b k : ℕ) → bit b (suc k) ≡ bit (b / 2) k
bit_half b k = ap (λ (z : ℕ). bit b z) (omega arith) ∙ sym (bit_shifted b 1 k)

bit_zero : (b : ℕ) → bit b 0 ≡ b % 2
unfolding bit
bit_zero b = omega arith

pub record Lowest (d b r : ℕ) : Type 0 where
  pub few : r < d
  pub is : bit b r ≡ 1
  pub none : (k : ℕ) → k < r → bit b k ≡ 0

lowest_even : {d b r : ℕ} → b % 2 ≡ 0 → Lowest d (b / 2) r → Lowest (suc d) b (suc r)
lowest_even {d} {b} {r} e w = record { few = omega (arith, w.few); is = bit_half b r ∙ w.is; none = below }
  where
    below : (k : ℕ) → k < suc r → bit b k ≡ 0
    below zero m = bit_zero b ∙ e
    below (suc k) m = bit_half b k ∙ w.none k (le_of_suc-le-suc m)

pub lowest : (d b : ℕ) → 0 < b → b < 2 ^ d → Lowest d b (count_trailing_zeros d b)
unfolding count_trailing_zeros
lowest zero b h l = absurd (omega arith)
lowest (suc d) b h l = by_bit (b % 2) refl (λ e. lowest d (b / 2) (omega arith) (omega (arith, pow-suc 2 d)))
  where
    by_bit : (p : ℕ) → b % 2 ≡ p → (b % 2 ≡ 0 → Lowest d (b / 2) (count_trailing_zeros d (b / 2))) → Lowest (suc d) b (under p (count_trailing_zeros d (b / 2)))
    by_bit zero e w = lowest_even e (w e)
    by_bit (suc zero) e w = record { few = omega arith; is = bit_zero b ∙ e; none = λ k m. absurd (not-suc-le-zero m) }
    by_bit (suc (suc p)) e w = absurd (omega arith)

pub first_bit : {b : ℕ} → 0 < b → b < 2 ^ 64 → FirstBit b (count_trailing_zeros 64 b)
first_bit {b} h l = let w = lowest 64 b h l in record { few = w.few; is = w.is; none = w.none }

-- a bit of a small number is one of its few
pub bit_few : {b d k : ℕ} → b < 2 ^ d → bit b k ≡ 1 → k < d
bit_few {b} {d} {k} l e = by_order (dec_lt k d)
  where
    by_order : Dec (k < d) → k < d
    by_order (yes h) = h
    by_order (no h) = absurd (omega (arith, no_high_bit b d k (omega arith) (div-eq_of_lt l)))

-- blocks of a row
module _ (n y : ℕ) where
  pub end_of_word : 8 * (y / 64) + 7 ≤ n / 8 → block_end n y ≡ 64 * (y / 64) + 64
  unfolding block_end
  end_of_word h = simp (le-leb _ _ h)

  pub end_of_byte : n / 8 < 8 * (y / 64) + 7 → block_end n y ≡ 8 * (y / 8) + 8
  unfolding block_end
  end_of_byte h = simp (lt-leb _ _ h)

  pub end_after : y < block_end n y
  end_after = by_order (dec_le (8 * (y / 64) + 7) (n / 8))
    where
      by_order : Dec (8 * (y / 64) + 7 ≤ n / 8) → y < block_end n y
      by_order (yes h) = omega (arith, end_of_word h)
      by_order (no h) = let l : n / 8 < 8 * (y / 64) + 7 = omega arith in omega (arith, end_of_byte l)

module _ {n y row : ℕ} {s : List ℕ} where
  pub rest_of_word : {r : ℕ} → 8 * (y / 64) + 7 ≤ n / 8 → Reads 64 s (row + 8 * (y / 64)) r → Rest n s row y (r / 2 ^ (y % 64))
  rest_of_word {r} h w = record {
    bits = λ z f l.
        let k = y % 64 + (z - y) in
        let b : k < 64 = omega (arith, end_of_word n y h) in
        let d : row + 8 * (y / 64) + k / 8 ≡ row + z / 8 = omega (arith, end_of_word n y h) in
        let m : k % 8 ≡ z % 8 = omega arith in
        bit_shifted r (y % 64) (z - y) ∙ w.read.bits k b ∙ ap (λ (i : ℕ). bit (get_or s i 0) (k % 8)) d ∙ ap (λ (i : ℕ). bit (get_or s (row + z / 8) 0) i) m;
    small = shr_lt (block_end n y - y) (y % 64) (rw (bits_left (omega (arith, end_of_word n y h))) w.small);
  }
    where
      bits_left : block_end n y - y + y % 64 ≡ 64 → 2 ^ (block_end n y - y + y % 64) ≡ 2 ^ 64
      bits_left e = ap (λ (i : ℕ). 2 ^ i) e

  pub rest_of_byte : {b : ℕ} → n / 8 < 8 * (y / 64) + 7 → (b ≡ get_or s (row + y / 8) 0) × (b ≤ 255) → Rest n s row y (b / 2 ^ (y % 8))
  rest_of_byte {b} h l = record {
    bits = λ z f g.
        let k = y % 8 + (z - y) in
        let d : row + y / 8 ≡ row + z / 8 = omega (arith, end_of_byte n y h) in
        let m : k ≡ z % 8 = omega (arith, end_of_byte n y h) in
        bit_shifted b (y % 8) (z - y) ∙ ap (λ (i : ℕ). bit b i) m ∙ ap (λ (i : ℕ). bit i (z % 8)) l.0 ∙ ap (λ (i : ℕ). bit (get_or s i 0) (z % 8)) d;
    small = shr_lt (block_end n y - y) (y % 8) (rw (bits_left (omega (arith, end_of_byte n y h))) (omega arith));
  }
    where
      bits_left : block_end n y - y + y % 8 ≡ 8 → 2 ^ (block_end n y - y + y % 8) ≡ 2 ^ 8
      bits_left e = ap (λ (i : ℕ). 2 ^ i) e

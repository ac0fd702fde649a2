-- A byte of a row that gains what a line does not have.
--   byte_added     the places of one more byte are done
use mathlib.Core.Path.{◌≡◌, refl, ◌∙◌}
use mathlib.Core.Logic.{◌⊎◌, inl, inr}
use mathlib.Core.List.{List}
use Prim.Native.Nat.{ℕ, zero, suc, ◌+◌, ◌*◌, ◌/◌, ◌%◌, ◌<◌}
use native.Mathlib.Omega.{arith}
use native.Mathlib.Decide.{ℕ_discrete, dec_lt}
use lib.ListN.{length, get_or}
use lib.Bits.{bit_xor, differ}
use Rattle.marks.specs.Squares.{bit}
use Rattle.marks.specs.Lines.{Has}
use Rattle.marks.proofs.Bits.{bit_small, bit_xor_lem, high_bits, not_bit, or_at, or_stays, or_has, or_only}
use Rattle.points.specs.Grids.{most_roots, cell, SetIn, Adds}

-- a byte of a row is of no other row
place_in : (a b : ℕ) → (cell most_roots a b / 8 ≡ a * 16 + b / 8) × (cell most_roots a b % 8 ≡ b % 8)
unfolding cell
place_in a b = (omega arith, omega arith)

missing_bit : (b k : ℕ) → k < 8 → (bit b k ≡ 1 → ⊥) → bit (bit_xor 255 b) k ≡ 1
missing_bit b k h none = bit_xor_lem 255 b k ∙ by_bits (bit 255 k) (bit b k) (high_bits 255 0 k (omega arith) h refl) (bit_small b k) none
  where
    by_bits : (p q : ℕ) → p ≡ 1 → q < 2 → (q ≡ 1 → ⊥) → differ p q ≡ 1
    by_bits zero q e h n = absurd (omega arith)
    by_bits (suc zero) zero e h n = refl
    by_bits (suc zero) (suc zero) e h n = absurd (n refl)
    by_bits (suc zero) (suc (suc q)) e h n = absurd (omega arith)
    by_bits (suc (suc p)) q e h n = absurd (omega arith)

module _ {row i : ℕ} {k w u : List ℕ} (adds : Adds most_roots row (8 * i) (λ y. Has k y → ⊥) (Has k) w u) (small : i < 16) (inside : row * 16 + i < length u) where
  abbrev after : List ℕ
  after = or_at u (row * 16 + i) (bit_xor 255 (get_or k i 0))

  stays : (a b : ℕ) → SetIn most_roots u a b → SetIn most_roots after a b
  stays a b m = record { is = or_stays u (row * 16 + i) _ (cell most_roots a b / 8) (cell most_roots a b % 8) inside m.is }

  pub byte_added : Adds most_roots row (8 * (i + 1)) (λ y. Has k y → ⊥) (Has k) w (or_at u (row * 16 + i) (bit_xor 255 (get_or k i 0)))
  byte_added = record {
    old = λ a b m. stays a b (adds.old a b m);
    all = λ y h. by_byte y h (dec_lt y (8 * i));
    only = λ a b l m. elim (or_only u (row * 16 + i) _ (cell most_roots a b / 8) (cell most_roots a b % 8) inside m.is) [
      | inl z ↦ elim (adds.only a b l (record { is = z })) [ inl x ↦ inl x | inr x ↦ inr (x.0, (omega (arith, x.1.0), x.1.1)) ]
      | inr z ↦ inr (this a b l (rw (place_in a b).0 at z.0) (rw (place_in a b).1 at z.1))
    ];
  }
    where
      this : (a b : ℕ) → b < most_roots → a * 16 + b / 8 ≡ row * 16 + i → bit (bit_xor 255 (get_or k i 0)) (b % 8) ≡ 1 → (a ≡ row) × ((b < 8 * (i + 1)) × (Has k b → ⊥))
      this a b l e z =
          let byte : b / 8 ≡ i = omega arith in
          (omega arith, (omega arith, λ n. not_bit (get_or k i 0) (b % 8) (omega arith) z (rw byte at n.is)))

      by_bit : (y : ℕ) → y / 8 ≡ i → Dec (bit (get_or k i 0) (y % 8) ≡ 1) → SetIn most_roots after row y ⊎ Has k y
      by_bit y e (yes z) = inr (record { is = rw e z })
      by_bit y e (no z) = inl (record { is = rw ((place_in row y).0, (place_in row y).1, e) (or_has u (row * 16 + i) _ (y % 8) inside (missing_bit _ (y % 8) (omega arith) z)) })

      by_byte : (y : ℕ) → y < 8 * (i + 1) → Dec (y < 8 * i) → SetIn most_roots after row y ⊎ Has k y
      by_byte y h (yes l) = elim (adds.all y l) [ inl z ↦ inl (stays row y z) | inr z ↦ inr z ]
      by_byte y h (no l) = by_bit y (omega arith) (ℕ_discrete (bit (get_or k i 0) (y % 8)) 1)
